-- `new_header::put` meets its contract.
use mathlib.Core.Path.{◌∙◌}
use native.Mathlib.Omega.{arith}
use Rattle.copy.proofs.CopyLaws.{copied_fits}
use Rattle.new_header.proofs.put.Goals as goal

pub returns : goal.returns
returns c =
    c.lay.ensures ∙ copied_fits _ _ _ (omega arith)
