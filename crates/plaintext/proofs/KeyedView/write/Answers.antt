-- `plaintext::KeyedView::write` meets its contract: what the write answers and leaves, and the lock after it.
use mathlib.Core.Path.{ap, ◌∙◌}
use Rattle.answers.specs.Answers.{locked_after}
use Rattle.plaintext.proofs.PlaintextLaws.{plain_write_post}
use Rattle.plaintext.proofs.KeyedView.write.Goals as goal

pub returns : goal.returns
returns c =
    let write = c.write_sectors-answer in
    let locks = c.locked_after-locked.ensures ∙ ap (locked_after _) c.refusal_number.ensures in
    plain_write_post _ _ _ _ _ _ _ _ write.ensures.value write.ensures.image_after locks
