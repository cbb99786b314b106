-- `view::View::write_extent` meets its contract: where the write finds its bytes, and the lock after it.
use mathlib.Core.Path.{refl, ap, ◌∙◌}
use Rattle.judgement.proofs.PlacementLaws.{placed_number}
use Rattle.view.specs.Outcomes.{after, write_placed}
use Rattle.view.proofs.View.write_extent.Goals as goal
use Rattle.answers.specs.Answers.{refusal_number}

pub returns : goal.returns
unfolding write_placed after
returns c =
    let same = c.refusal_number.ensures ∙ ap refusal_number c.write_extent-answer.ensures ∙ placed_number _ _ _ in
    rw (c.locked_after-locked.ensures, same, c.write_extent-answer.ensures) refl
