-- Blocks that a function of row and column gives, and blocks that bytes are, in fours. Assumes nothing.
use Prim.Native.Nat.{ℕ, ◌+◌, ◌*◌, ◌/◌, ◌%◌, ◌≤◌, ◌<◌}
use native.Mathlib.Nat.{zero-lt-suc}
use mathlib.Core.{Path.{◌≡◌, refl, sym, ap, subst, fun_ext, ◌∙◌}, List.{List, [], ◌++◌}}
use lib.ListN.{length, get_or, take, drop, take-append-drop}
use Rattle.bits.specs.Bits.{Bytes, entries}
use Rattle.bits.proofs.{BytesLaws.bytes_every, EntriesLaws.{entries_every, entries_get_d}}
use Rattle.aes_words.specs.Words.{Words, word, in_fours}
use Rattle.aes_steps.specs.Blocks.{byte_at, block, block_byte, bytes_of}
use Rattle.mix_laws.specs.Blocks.{SmallWord, Small, Block}

-- ---- by row and column

pub word_small : (f : ℕ → ℕ) → ((r : ℕ) → f r < 256) → SmallWord (word f)
unfolding word
word_small f small = entries_every f (λ b. b < 256) 0 (zero-lt-suc 255) small 4 0

block_columns : (f : ℕ → ℕ → ℕ) → ((r c : ℕ) → f r c < 256) → (c : ℕ) → SmallWord (get_or (block f) c [])
unfolding block
block_columns f small =
    entries_every (λ c. word (λ r. f r c)) SmallWord [] (λ r. zero-lt-suc 255) (λ c. word_small (λ r. f r c) (λ r. small r c)) 4 0

pub block_block : (f : ℕ → ℕ → ℕ) → ((r c : ℕ) → f r c < 256) → Block (block f)
unfolding block word entries byte_at
block_block f small = record { shaped = refl; small = λ r c. block_columns f small c r }

pub block_same : (s : Words) → Block s → (f : ℕ → ℕ → ℕ) → ((r c : ℕ) → f r c ≡ byte_at s r c) → block f ≡ s
block_same s b f same = ap block (fun_ext (λ r. fun_ext (same r))) ∙ sym b.shaped

-- ---- in fours

module _ (bytes : List ℕ) (whole : 16 ≤ length bytes) where
  places : in_fours 4 bytes ≡ block (λ r c. get_or bytes (4 * c + r) 0)
  unfolding in_fours block word entries
  places =
      ap (in_fours 4) (sym (take-append-drop 16 bytes) ∙ ap (λ (first : List ℕ). first ++ drop 16 bytes) (sym (entries_get_d bytes 0 16 0 whole)))

  pub in_fours_block : ((k : ℕ) → get_or bytes k 0 < 256) → Block (in_fours 4 bytes)
  in_fours_block small = subst Block (sym places) (block_block (λ r c. get_or bytes (4 * c + r) 0) (λ r c. small (4 * c + r)))

  pub bytes_in_fours : bytes_of (in_fours 4 bytes) ≡ take 16 bytes
  unfolding bytes_of block_byte byte_at block word entries
  bytes_in_fours = ap bytes_of places ∙ entries_get_d bytes 0 16 0 whole

pub in_fours_bytes : (s : Words) → Block s → (rest : List ℕ) → in_fours 4 (bytes_of s ++ rest) ≡ s
unfolding in_fours bytes_of block_byte byte_at block word entries
in_fours_bytes s b rest = sym b.shaped

pub bytes_of_small : (s : Words) → Small s → Bytes (bytes_of s)
unfolding bytes_of block_byte
bytes_of_small s small =
    bytes_every (bytes_of s) (entries_every (block_byte s) (λ b. b < 256) 0 (zero-lt-suc 255) (λ k. small (k % 4) (k / 4)) 16 0)
