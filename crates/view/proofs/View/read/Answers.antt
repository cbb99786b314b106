-- `view::View::read` meets its contract: what the read answers and leaves, and the same view.
use Rattle.view.proofs.OutcomeLaws.{read_post}
use Rattle.view.proofs.View.read.Goals as goal

pub returns : goal.returns
returns c =
    let read = c.read-answer in
    read_post _ _ _ _ _ _ _ read.ensures.value read.ensures.buffer_after
