-- The cipher and its inverse undo each other, with any round keys of bytes. Assumes nothing.
use Prim.Native.Nat.{ℕ, zero, suc}
use mathlib.Core.List.{List}
use Rattle.aes_words.specs.Words.{Words}
use Rattle.aes_steps.specs.Blocks.{sub_bytes, inv_sub_bytes, shift_rows, inv_shift_rows, add_round_key}
use Rattle.aes_steps.specs.Rounds.{round, inv_round}
use Rattle.aes.specs.Cipher.{round_key, rounds, inv_rounds, cipher, inv_cipher, through_cipher}
use Rattle.aes.specs.declared.Direction.{Direction, TheVariants.{Encipher, Decipher}}
use Rattle.mix_laws.specs.Blocks.{Small, Undone, Inverses}
use Rattle.cipher_laws.specs.Directions.{opposite}
use Rattle.cipher_laws.proofs.StepLaws.{sub_bytes_inverses, shift_rows_inverses, add_round_key_undone}
use Rattle.mix_laws.proofs.MixLaws.{mix_columns_inverses}
use Rattle.cipher_laws.proofs.UndoneLaws.{inverses_then}

sub_shift_inverses : Inverses (λ s. shift_rows (sub_bytes s)) (λ s. inv_sub_bytes (inv_shift_rows s))
sub_shift_inverses = inverses_then sub_bytes_inverses shift_rows_inverses

module _ (keys : List Words) (small : (r : ℕ) → Small (round_key keys r)) where
  add_key_inverses : (r : ℕ) → Inverses (add_round_key (round_key keys r)) (add_round_key (round_key keys r))
  add_key_inverses r = let undone = add_round_key_undone (round_key keys r) (small r) in (undone, undone)

  -- n rounds, and the next one's first two steps
  rounds_inverses : (n : ℕ) → Inverses (λ s. shift_rows (sub_bytes (rounds keys n s))) (λ s. inv_sub_bytes (inv_shift_rows (inv_rounds keys n s)))
  unfolding rounds inv_rounds round inv_round
  rounds_inverses zero = sub_shift_inverses
  rounds_inverses (suc n) =
      inverses_then (rounds_inverses n) (inverses_then mix_columns_inverses (inverses_then (add_key_inverses (suc n)) sub_shift_inverses))

  pub cipher_inverses : Inverses (cipher keys) (inv_cipher keys)
  unfolding cipher inv_cipher
  cipher_inverses = inverses_then (add_key_inverses 0) (inverses_then (rounds_inverses 13) (add_key_inverses 14))

  pub through_undone : (direction : Direction) → Undone (through_cipher direction keys) (through_cipher (opposite direction) keys)
  unfolding through_cipher
  through_undone Encipher = cipher_inverses.0
  through_undone Decipher = cipher_inverses.1
