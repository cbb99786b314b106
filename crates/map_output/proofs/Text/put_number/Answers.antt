-- `map_output::Text::put_number` meets its contract.
use Prim.Native.Nat.{ℕ, ◌-◌, ◌≤◌}
use mathlib.Core.{List.List, Path.◌≡◌}
use native.Mathlib.Omega.{arith}
use lib.{ListN.{length, take, drop, length-drop}, Seq.take_all}
use Rattle.map_output.specs.MapOutput.{number_line}
use Rattle.map_output.proofs.Text.put_number.Goals as goal

pub returns : goal.returns
unfolding number_line
returns c =
    let d = c.decimal-first in
    let bytes : List ℕ = d.new.digits in
    let rest : length (drop d.result bytes) ≤ 20 - d.result = simp length-drop (omega (arith, d.ensures.size)) in
    let whole : take (20 - d.result) (drop d.result bytes) ≡ drop d.result bytes = take_all _ _ rest in
    rw (← d.ensures.content, ← whole) c.put_line.ensures
