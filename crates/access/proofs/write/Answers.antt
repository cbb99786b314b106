-- `access::write` meets its contract: a refusal changes nothing, and an accepted one moves the extent's bytes.
use native.Mathlib.Omega.{arith}
use mathlib.Core.Path.{refl, sym, ap, ◌∙◌}
use Rattle.answers.specs.Answers.{is_accepted}
use Rattle.answers.proofs.AnswerLaws.{passed_on}
use Rattle.judgement.proofs.{JudgingLaws.{write_passed, passed_ends}, PlacementLaws.{placed_accepted, placed_refused}}
use Rattle.access.proofs.MovingLaws.{written_accepted, written_refused}
use Rattle.access.proofs.write.Goals as goal

pub lay-requires : goal.lay-requires
lay-requires c =
    let given = placed_accepted _ _ c.write_extent.ensures c.in_ok-start.was in
    let passed = write_passed _ _ _ _ _ _ _ refl given.0 in
    omega (arith, given.1, passed_ends _ _ _ _ _ _ passed)

pub returns-in_err-start : goal.returns-in_err-start
unfolding is_accepted
returns-in_err-start c =
    let refused = passed_on _ c.from_residual.ensures.1 in
    record {
      value = refused ∙ sym (placed_refused _ _ c.write_extent.ensures c.in_err-start.was);
      image_after = written_refused _ _ _ _ _ (ap is_accepted refused);
    }

pub returns : goal.returns
returns c =
    let given = placed_accepted _ _ c.write_extent.ensures c.in_ok-start.was in
    record { value = sym given.0; image_after = c.lay.ensures ∙ written_accepted _ _ _ _ _ _ refl given.1 }
