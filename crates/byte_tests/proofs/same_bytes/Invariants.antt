-- `byte_tests::same_bytes` meets its contract. The loop's invariant: what is left decides the test of the whole.
use Prim.Native.Nat.{◌≤◌, ◌-◌}
use mathlib.Core.Path.{◌≡◌}
use lib.ListN.{length, drop}
use Rattle.byte_tests.specs.Tests.{same_bytes}
use Rattle.byte_tests.proofs.same_bytes.Given as goal

abbrev pub invariant-loop-same : goal.invariant-loop-same
invariant-loop-same l = (l.same ≤ length l.a) × (same_bytes (drop l.same l.a) (drop l.same l.b) ≡ same_bytes l.a l.b)

abbrev pub decreases-loop-same : goal.decreases-loop-same
decreases-loop-same l = length l.a - l.same
