-- SubBytes, ShiftRows and AddRoundKey, and what undoes each of them. Assumes nothing.
use Prim.Native.Nat.{ℕ, ◌+◌, ◌-◌, ◌%◌, ◌<◌}
use mathlib.Core.Path.{◌≡◌, sym}
use lib.Bits.{bit_xor, xor_lt}
use Rattle.bits.specs.Bits.{entries}
use Rattle.bits.proofs.XorLaws.{xor_cancel_right}
use Rattle.aes_words.specs.Words.{Words, word}
use Rattle.aes_steps.specs.Blocks.{byte_at, block, sub_bytes, inv_sub_bytes, shift_rows, inv_shift_rows, add_round_key}
use Rattle.aes_tables.specs.SBox.{substituted, restored}
use Rattle.mix_laws.specs.Blocks.{Small, Undone, Inverses}
use Rattle.mix_laws.proofs.BlockLaws.{block_block, block_same}
use Rattle.field_laws.proofs.SBoxLaws.{substituted_byte, restored_byte, restored_substituted, substituted_restored}

-- each byte made another one, by its row and column
each_undone : (f g : ℕ → ℕ → ℕ → ℕ) → ((r c b : ℕ) → b < 256 → f r c b < 256) → ((r c b : ℕ) → b < 256 → g r c (f r c b) ≡ b)
    → Undone (λ s. block (λ r c. f r c (byte_at s r c))) (λ s. block (λ r c. g r c (byte_at s r c)))
unfolding block word entries byte_at
each_undone f g byte same =
    record {
      kept = λ s b. block_block (λ r c. f r c (byte_at s r c)) (λ r c. byte r c (byte_at s r c) (b.small r c));
      back = λ s b. block_same s b (λ r c. g r c (f r c (byte_at s r c))) (λ r c. same r c (byte_at s r c) (b.small r c));
    }

pub sub_bytes_inverses : Inverses sub_bytes inv_sub_bytes
unfolding sub_bytes inv_sub_bytes
sub_bytes_inverses = (
  each_undone (λ r c. substituted) (λ r c. restored) (λ r c b h. substituted_byte b) (λ r c. restored_substituted),
  each_undone (λ r c. restored) (λ r c. substituted) (λ r c b h. restored_byte b) (λ r c. substituted_restored),
)

pub add_round_key_undone : (key : Words) → Small key → Undone (add_round_key key) (add_round_key key)
unfolding add_round_key
add_round_key_undone key small =
    each_undone (λ r c b. bit_xor b (byte_at key r c)) (λ r c b. bit_xor b (byte_at key r c)) (λ r c b h. xor_lt 8 b (byte_at key r c) h (small r c))
    (λ r c b h. xor_cancel_right b (byte_at key r c))

-- the sixteen places come back by computation
pub shift_rows_inverses : Inverses shift_rows inv_shift_rows
unfolding shift_rows inv_shift_rows block word entries byte_at
shift_rows_inverses = (
  record {
    kept = λ s b. block_block (λ r c. byte_at s r ((c + r) % 4)) (λ r c. b.small r ((c + r) % 4));
    back = λ s b. sym b.shaped;
  },
  record {
    kept = λ s b. block_block (λ r c. byte_at s r ((c + 4 - r) % 4)) (λ r c. b.small r ((c + 4 - r) % 4));
    back = λ s b. sym b.shaped;
  },
)
