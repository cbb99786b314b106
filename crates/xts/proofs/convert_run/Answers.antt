-- `xts::convert_run` meets its contract, by its tests.
use mathlib.Core.Path.{◌∙◌}
use native.Mathlib.Omega.{arith}
use Rattle.xts.proofs.RunLaws.{run_of_other_length, run_of_parts, run_past_numbers, run_fits}
use Rattle.xts.proofs.convert_run.Goals as goal

pub returns-then-from-into : goal.returns-then-from-into
returns-then-from-into c = run_of_other_length _ _ _ _ _ c.if-from-into.true

pub returns-then-from-ne0 : goal.returns-then-from-ne0
returns-then-from-ne0 c = run_of_parts _ _ _ _ _ c.if-from-into.false c.if-from-ne0.true

pub returns-then-number-from : goal.returns-then-number-from
returns-then-number-from c = run_past_numbers _ _ _ _ _ c.if-from-into.false c.if-from-ne0.false (omega arith)

pub returns : goal.returns
returns c =
    c.convert_units.ensures ∙ run_fits _ _ _ _ _ c.if-from-into.false c.if-from-ne0.false (omega arith)
