-- `making::protected` meets its contract: the pair's answer decides, and a sound layout ends far below 2^64.
use native.Mathlib.Omega.{arith}
use mathlib.Core.Path.{◌∙◌}
use Rattle.answers.proofs.AnswerLaws.{passed_on}
use Rattle.layout.proofs.RuleLaws.{sound_end_le}
use Rattle.protection.specs.Protection.{area_end}
use Rattle.pairing.proofs.PairLaws.{pair_hidden_sound}
use Rattle.making.specs.Views.{protected_view, protected_of, made_by}
use Rattle.making.proofs.protected.Goals as goal

pub returns-in_err-check_pair : goal.returns-in_err-check_pair
unfolding protected_view made_by
returns-in_err-check_pair c =
    passed_on _ c.from_residual.ensures.1 ∙ simp (← c.check_pair.ensures, c.in_err-check_pair.was)

pub overflow_add-end : goal.overflow_add-end
overflow_add-end c =
    let kept = pair_hidden_sound _ _ c.check_pair.ensures c.in_ok-check_pair.was in
    record { fits = omega (arith, sound_end_le _ kept) }

pub returns : goal.returns
unfolding protected_view protected_of made_by area_end
returns c = simp (← c.check_pair.ensures, c.in_ok-check_pair.was)
