-- The block of a tweak number: sixteen bytes that spell it little-endian in the first 8, then zeros.
-- Assumes nothing.
use Prim.Native.Nat.{ℕ, ◌^◌, ◌<◌}
use native.Mathlib.Nat.{mod-eq_of_lt}
use mathlib.Core.{Path.{◌≡◌, sym, ◌∙◌, ap}, List.◌++◌}
use lib.{ListN.{length, replicate}, Seq.{take_at, drop_at}}
use Rattle.numbers.specs.Numbers.{little_endian, little_endian_bytes}
use Rattle.numbers.proofs.WrittenLaws.{little_endian_bytes_length, little_endian_bytes_lt, little_endian_bytes_spell, little_endian_bytes_pad}
use Rattle.tweaks.specs.Tweaks.{block_of}
use Rattle.header_claims.specs.SectorMap.{IsBlock}
use Rattle.std.specs.Prelude.{Ok}

pub block_of_number : (number : ℕ) → number < 256 ^ 8 → IsBlock number (block_of (Ok number))
unfolding block_of
block_of_number number small =
    let written : little_endian_bytes 16 number ≡ little_endian_bytes 8 number ++ replicate 8 0 = little_endian_bytes_pad 8 8 number small in
    let eight : length (little_endian_bytes 8 number) ≡ 8 = little_endian_bytes_length 8 number in
    record {
      sixteen = ap length (sym written) ∙ little_endian_bytes_length 16 number;
      bytes = λ i. rw (← written) (little_endian_bytes_lt 16 number i);
      spells = ap little_endian (take_at (little_endian_bytes 8 number) (replicate 8 0) 8 eight) ∙ little_endian_bytes_spell 8 number ∙ mod-eq_of_lt small;
      zeros = drop_at (little_endian_bytes 8 number) (replicate 8 0) 8 eight;
    }
