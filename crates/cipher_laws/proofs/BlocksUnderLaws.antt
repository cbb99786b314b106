-- Blocks one behind the other under their tweaks: they are bytes, and are undone. Assumes nothing.
use Prim.Native.Nat.{ℕ, zero, suc, ◌*◌, ◌≤◌}
use native.Mathlib.Omega.{arith}
use mathlib.Core.{Path.{◌≡◌, refl, ap, ap₂, ◌∙◌}, List.{List, [], ◌∷◌, ◌++◌}}
use lib.ListN.{length, drop, length-drop, take-append-drop}
use Rattle.bits.specs.Bits.{Bytes, entries}
use Rattle.bits.proofs.BytesLaws.{bytes_drop, bytes_append, bytes_get_d}
use Rattle.aes_words.specs.Words.{Words, in_fours}
use Rattle.aes_steps.specs.Blocks.{bytes_of}
use Rattle.xts_tweaks.specs.Tweaks.{times_alpha}
use Rattle.xts.specs.Units.{under_tweak, blocks_under}
use Rattle.mix_laws.specs.Blocks.{Small, Undone}
use Rattle.mix_laws.proofs.BlockLaws.{in_fours_block, bytes_in_fours, in_fours_bytes, bytes_of_small}
use Rattle.cipher_laws.proofs.{StepLaws.add_round_key_undone, TweakLaws.times_alpha_small, UndoneLaws.undone_then}

module _ {f g : Words → Words} (undone : Undone f g) where
  under_undone : (t : Words) → Small t → Undone (under_tweak f t) (under_tweak g t)
  unfolding under_tweak
  under_undone t tweak = let added = add_round_key_undone t tweak in undone_then added (undone_then undone added)

  pub blocks_bytes : (n : ℕ) (t : Words) → Small t → (bytes : List ℕ) → length bytes ≡ n * 16 → Bytes bytes → Bytes (blocks_under f n t bytes)
  unfolding blocks_under
  blocks_bytes zero t tweak bytes whole small = tt
  blocks_bytes (suc n) t tweak bytes whole small =
      let s = in_fours 4 bytes in
      let b = in_fours_block bytes (omega arith) (bytes_get_d bytes small) in
      bytes_append (bytes_of (under_tweak f t s)) (blocks_under f n (times_alpha t) (drop 16 bytes))
      (bytes_of_small (under_tweak f t s) ((under_undone t tweak).kept s b).small)
      (blocks_bytes n (times_alpha t) (times_alpha_small t tweak) (drop 16 bytes) (length-drop 16 bytes ∙ omega arith) (bytes_drop 16 bytes small))

  pub blocks_back : (n : ℕ) (t : Words) → Small t → (bytes : List ℕ) → length bytes ≡ n * 16 → Bytes bytes
      → blocks_under g n t (blocks_under f n t bytes) ≡ bytes
  unfolding blocks_under bytes_of entries
  blocks_back zero t tweak [] whole small = refl
  blocks_back zero t tweak (b ∷ bytes) whole small = absurd (omega arith)
  blocks_back (suc n) t tweak bytes whole small =
      let long : 16 ≤ length bytes = omega arith in
      let under = under_undone t tweak in
      let s = in_fours 4 bytes in
      let b = in_fours_block bytes long (bytes_get_d bytes small) in
      let rest = blocks_under f n (times_alpha t) (drop 16 bytes) in
      let first = ap (under_tweak g t) (in_fours_bytes (under_tweak f t s) (under.kept s b) rest) ∙ under.back s b in
      let others = blocks_back n (times_alpha t) (times_alpha_small t tweak) (drop 16 bytes) (length-drop 16 bytes ∙ omega arith) (bytes_drop 16 bytes small) in
      ap₂ (λ (x y : List ℕ). x ++ y) (ap bytes_of first ∙ bytes_in_fours bytes long) others ∙ take-append-drop 16 bytes
