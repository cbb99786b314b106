-- `view::View::write` meets its contract: what the write answers and leaves, and the lock after it.
use mathlib.Core.Path.{ap, ◌∙◌}
use Rattle.answers.specs.Answers.{locked_after}
use Rattle.view.proofs.OutcomeLaws.{write_post}
use Rattle.view.proofs.View.write.Goals as goal

pub returns : goal.returns
returns c =
    let write = c.write-answer in
    let locks = c.locked_after-locked.ensures ∙ ap (locked_after _) c.refusal_number.ensures in
    write_post _ _ _ _ _ _ _ _ write.ensures.value write.ensures.image_after locks
