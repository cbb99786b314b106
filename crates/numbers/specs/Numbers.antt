-- Numbers of any count of bytes, in either order (RULES.md, Header bytes): what the contracts of `numbers`, and every field above it, cite. Assumes nothing.
use Rattle.std.specs.Prelude.{ℕ, zero, suc, ◌+◌, ◌*◌, ◌/◌, ◌%◌, ◌^◌, ◌≤◌}
use mathlib.Core.{Path.◌≡◌, List.{List, [], ◌∷◌, ◌++◌}}

-- the number a, written on by one base-256 digit for each byte
unfoldable pub big_endian_from : ℕ → List ℕ → ℕ
big_endian_from a [] = a
big_endian_from a (b ∷ bs) = big_endian_from (a * 256 + b) bs

-- the number that the bytes spell, the first byte the most significant
unfoldable pub big_endian : List ℕ → ℕ
big_endian bs = big_endian_from 0 bs

-- the number that the bytes spell, the first byte the least significant
unfoldable pub little_endian : List ℕ → ℕ
little_endian [] = 0
little_endian (b ∷ bs) = b + 256 * little_endian bs

-- a number as so many bytes, the first byte the most significant; what does not fit is left out
unfoldable pub big_endian_bytes : ℕ → ℕ → List ℕ
big_endian_bytes zero number = []
big_endian_bytes (suc size) number = big_endian_bytes size (number / 256) ++ (number % 256 ∷ [])

-- .. and with the first byte the least significant
unfoldable pub little_endian_bytes : ℕ → ℕ → List ℕ
little_endian_bytes zero number = []
little_endian_bytes (suc size) number = number % 256 ∷ little_endian_bytes size (number / 256)

-- a number read into 64 bits: the number modulo 2^64, which is the number itself for at most eight bytes
pub record ReadAs (number size r : ℕ) : Type 0 where
  pub modulo : r ≡ number % 2 ^ 64
  pub whole : size ≤ 8 → r ≡ number
