-- `plaintext::KeyedView::read` meets its contract: what the read answers and leaves, and the same view and key.
use Rattle.plaintext.proofs.PlaintextLaws.{plain_read_post}
use Rattle.plaintext.proofs.KeyedView.read.Goals as goal

pub returns : goal.returns
returns c =
    let read = c.read_sectors-answer in
    plain_read_post _ _ _ _ _ _ _ read.ensures.value read.ensures.buffer_after
