-- `map_input::open_input` meets its contract: the parts that it passes on are the definition's, and eight bytes are read whole.
use native.Mathlib.Omega.{arith}
use lib.ListN.{length-take}
use borrow.Author.Tests.{eq-eqb}
use Rattle.map_input.specs.MapInput.{opened_input}
use Rattle.map_input.proofs.open_input.Goals as goal

pub returns : goal.returns
unfolding opened_input
returns c =
    let whole = c.read_big_endian-host_size.ensures.whole (simp length-take (omega arith)) in
    simp (eq-eqb _ _ c.if-input-ne-SIZE.false, ← whole) c.open.ensures
