-- `number_writing::write_big_endian` meets its contract. The loop's invariant: what is left to write, and then what is written, are the bytes
-- of the whole.
use mathlib.Core.{Path.{◌≡◌}, List.{◌++◌}}
use lib.{ListN.{length, drop}}
use Rattle.numbers.specs.Numbers.{big_endian_bytes}
use Rattle.number_writing.proofs.write_big_endian.Given as goal

abbrev pub invariant-loop-at : goal.invariant-loop-at
invariant-loop-at l = big_endian_bytes (length l.initial.bytes) l.number ≡ big_endian_bytes l.at l.high ++ drop l.at l.bytes
