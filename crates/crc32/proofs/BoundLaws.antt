-- A checksum of bytes has 32 bits. Assumes nothing.
use Prim.Native.Nat.{ℕ, zero, suc, ◌*◌, ◌/◌, ◌%◌, ◌^◌, ◌<◌}
use native.Mathlib.Omega.{arith}
use native.Mathlib.Nat.{mod-lt, zero-lt-suc}
use mathlib.Core.List.{List, [], ◌∷◌}
use lib.Bits.{bit_xor, xor_lt}
use Rattle.bits.specs.Bits.{Bytes}
use Rattle.crc32.specs.Crc32.{bit_step, bit_steps, crc_from, crc32}

bit_step_lt : (c : ℕ) → c < 2 ^ 32 → bit_step c < 2 ^ 32
unfolding bit_step
bit_step_lt c h = xor_lt 32 (c % 2 * 0xEDB88320) (c / 2) (omega (arith, mod-lt c (zero-lt-suc 1))) (omega arith)

bit_steps_lt : (k c : ℕ) → c < 2 ^ 32 → bit_steps k c < 2 ^ 32
unfolding bit_steps
bit_steps_lt zero c h = h
bit_steps_lt (suc k) c h = bit_steps_lt k (bit_step c) (bit_step_lt c h)

crc_from_lt : (c : ℕ) (bs : List ℕ) → c < 2 ^ 32 → Bytes bs → crc_from c bs < 2 ^ 32
unfolding crc_from
crc_from_lt c [] h small = h
crc_from_lt c (b ∷ bs) h small = crc_from_lt (bit_steps 8 (bit_xor b c)) bs (bit_steps_lt 8 (bit_xor b c) (xor_lt 32 b c (omega (arith, small.0)) h)) small.1

pub crc32_lt : (bs : List ℕ) → Bytes bs → crc32 bs < 2 ^ 32
unfolding crc32
crc32_lt bs small = xor_lt 32 0xFFFFFFFF (crc_from 0xFFFFFFFF bs) (omega arith) (crc_from_lt 0xFFFFFFFF bs (omega arith) small)
