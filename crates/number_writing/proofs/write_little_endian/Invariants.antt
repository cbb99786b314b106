-- `number_writing::write_little_endian` meets its contract. The loop's invariant: what is written, and then what is left to write, are the bytes of the whole.
use mathlib.Core.{Path.{◌≡◌}, List.◌++◌}
use Prim.Native.Nat.{◌-◌}
use lib.ListN.{length, take}
use Rattle.numbers.specs.Numbers.{little_endian_bytes}
use Rattle.number_writing.proofs.write_little_endian.Given as goal

abbrev pub invariant-loop-at : goal.invariant-loop-at
invariant-loop-at l =
    let n = length l.initial.bytes in
    little_endian_bytes n l.number ≡ take l.at l.bytes ++ little_endian_bytes (n - l.at) l.rest
