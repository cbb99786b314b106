-- The tweaks of a unit are bytes. Assumes nothing.
use Prim.Native.Nat.{ℕ, zero, suc, ◌+◌, ◌*◌, ◌/◌, ◌%◌, ◌≤◌, ◌<◌}
use native.Mathlib.Omega.{arith}
use mathlib.Core.List.{List}
use lib.{Bits.xor_lt, ListN.length}
use Rattle.numbers.proofs.WrittenLaws.{little_endian_bytes_length, little_endian_bytes_lt}
use Rattle.aes_words.specs.Words.{Words, in_fours}
use Rattle.aes_steps.specs.Blocks.{block_byte}
use Rattle.aes.specs.Cipher.{round_key}
use Rattle.xts.specs.Units.{tweak_bytes, first_tweak}
use Rattle.xts_tweaks.specs.Tweaks.{raised, alpha_byte, times_alpha}
use Rattle.mix_laws.specs.Blocks.{Small}
use Rattle.mix_laws.proofs.BlockLaws.{block_block, in_fours_block}
use Rattle.cipher_laws.proofs.CipherLaws.{cipher_inverses}

raised_byte : (carry byte : ℕ) → carry < 256 → raised carry byte < 256
unfolding raised
raised_byte carry byte small = xor_lt 8 (2 * (byte % 128)) carry (omega arith) small

alpha_byte_lem : (t : Words) → Small t → (k : ℕ) → alpha_byte t k < 256
unfolding alpha_byte block_byte
alpha_byte_lem t small zero = raised_byte (135 * (block_byte t 15 / 128)) (block_byte t 0) (omega (arith, small 3 3))
alpha_byte_lem t small (suc k) = raised_byte (block_byte t k / 128) (block_byte t (suc k)) (omega (arith, small (k % 4) (k / 4)))

pub times_alpha_small : (t : Words) → Small t → Small (times_alpha t)
unfolding times_alpha
times_alpha_small t small = (block_block (λ r c. alpha_byte t (4 * c + r)) (λ r c. alpha_byte_lem t small (4 * c + r))).small

pub first_tweak_small : (keys : List Words) → ((r : ℕ) → Small (round_key keys r)) → (number : ℕ) → Small (first_tweak keys number)
unfolding first_tweak tweak_bytes
first_tweak_small keys small number =
    let whole : 16 ≤ length (tweak_bytes number) = omega (arith, little_endian_bytes_length 16 number) in
    let start = in_fours_block (tweak_bytes number) whole (little_endian_bytes_lt 16 number) in
    ((cipher_inverses keys small).0.kept (in_fours 4 (tweak_bytes number)) start).small
