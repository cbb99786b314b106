-- `opening::search_in_order` meets its contract. The loop's invariant: the refusal remembered is the answer over the candidates so far.
use Prim.Native.Nat.{◌≤◌, ◌-◌}
use mathlib.Core.Path.{◌≡◌}
use lib.{ListN.{length, take}}
use Rattle.answers.specs.Answers.{refuse}
use Rattle.opening.specs.Opening.{searched}
use Rattle.opening.proofs.search_in_order.Given as goal

abbrev pub invariant-loop-index : goal.invariant-loop-index
invariant-loop-index l = (l.index ≤ length l.codes) × (searched l.candidates l.host_size (take l.index l.codes) ≡ refuse l.first)

abbrev pub decreases-loop-index : goal.decreases-loop-index
decreases-loop-index l = length l.codes - l.index
