-- `map_output::Text::put_line` meets its contract.
use mathlib.Core.List.{[], ◌∷◌}
use native.Mathlib.Omega.{arith}
use Rattle.map_output.specs.MapOutput.{text_line, Written}
use Rattle.map_output.proofs.PutLaws.{written_append, written_within}
use Rattle.map_output.proofs.Text.put_line.Goals as goal

pub returns : goal.returns
unfolding text_line
returns c =
    let fed : Written 1 (10 ∷ []) _ _ _ _ = c.put-4.ensures in
    let labelled = written_append c.put.ensures c.put-2.ensures in
    written_within (omega (arith, c.requires)) (written_append (written_append labelled c.put-3.ensures) fed)
