-- `opening::codes_known` meets its contract. The loop's invariant: the largest code so far and what is left decide for all.
use Prim.Native.Nat.{◌≤◌, ◌-◌}
use mathlib.Core.{Path.{◌≡◌}, Bool.◌&&◌}
use lib.ListN.{length, drop}
use Rattle.locations.specs.Locations.{code_rule}
use Rattle.opening.specs.Opening.{codes_rule}
use Rattle.opening.proofs.codes_known.Given as goal

abbrev pub invariant-loop-i : goal.invariant-loop-i
invariant-loop-i l = (l.i ≤ length l.codes) × ((code_rule l.largest && codes_rule (drop l.i l.codes)) ≡ codes_rule l.codes)

abbrev pub decreases-loop-i : goal.decreases-loop-i
decreases-loop-i l = length l.codes - l.i
