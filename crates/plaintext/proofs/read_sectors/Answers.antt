-- `plaintext::read_sectors` meets its contract: a refusal changes nothing, and an accepted one converts the extent's sectors.
use native.Mathlib.Omega.{arith}
use mathlib.Core.Path.{refl, sym, ap, ◌∙◌}
use Rattle.answers.specs.Answers.{is_accepted}
use Rattle.answers.proofs.AnswerLaws.{passed_on}
use Rattle.judgement.proofs.{JudgingLaws.{read_passed, passed_ends}, PlacementLaws.{placed_accepted, placed_refused}}
use Rattle.plaintext.proofs.PlaintextLaws.{plain_filled_accepted, plain_filled_refused}
use Rattle.plaintext.proofs.read_sectors.Goals as goal

pub decipher_from-requires : goal.decipher_from-requires
decipher_from-requires c =
    let given = placed_accepted _ _ c.read_extent.ensures c.in_ok-start.was in
    let passed = read_passed _ _ _ _ _ _ refl given.0 in
    record { inside_image = omega (arith, given.1, passed_ends _ _ _ _ _ _ passed); whole_sectors = omega (arith, passed.buffer_whole) }

pub returns-in_err-start : goal.returns-in_err-start
unfolding is_accepted
returns-in_err-start c =
    let refused = passed_on _ c.from_residual.ensures.1 in
    record {
      value = refused ∙ sym (placed_refused _ _ c.read_extent.ensures c.in_err-start.was);
      buffer_after = plain_filled_refused _ _ _ _ _ _ _ (ap is_accepted refused);
    }

pub returns : goal.returns
returns c =
    let given = placed_accepted _ _ c.read_extent.ensures c.in_ok-start.was in
    let passed = read_passed _ _ _ _ _ _ refl given.0 in
    record { value = sym given.0; buffer_after = c.decipher_from.ensures ∙ plain_filled_accepted _ _ _ _ _ _ _ _ refl given.1 passed.buffer_whole }
