-- CRC-32 of ITU-T V.42 (RULES.md, Header bytes), bit by bit from the reflected polynomial EDB88320: what the contracts of `crc32` cite. Assumes nothing.
use Rattle.std.specs.Prelude.{ℕ, zero, suc, ◌*◌, ◌/◌, ◌%◌, List, [], ◌∷◌}
use Rattle.std.specs.Int.Bits.{bit_xor}

-- one bit: the register moves down by one bit, and takes the polynomial where the bit that fell out was 1
unfoldable pub bit_step : ℕ → ℕ
bit_step c = bit_xor (c % 2 * 0xEDB88320) (c / 2)

-- k bits
unfoldable pub bit_steps : ℕ → ℕ → ℕ
bit_steps zero c = c
bit_steps (suc k) c = bit_steps k (bit_step c)

-- the register c after the bytes: each is added to its low end, and then eight bits are taken
unfoldable pub crc_from : ℕ → List ℕ → ℕ
crc_from c [] = c
crc_from c (b ∷ bs) = crc_from (bit_steps 8 (bit_xor b c)) bs

-- the checksum: the register starts as FFFFFFFF and ends with an exclusive-or by FFFFFFFF
unfoldable pub crc32 : List ℕ → ℕ
crc32 bs = bit_xor 0xFFFFFFFF (crc_from 0xFFFFFFFF bs)
