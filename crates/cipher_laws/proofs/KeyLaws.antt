-- The round keys of bytes are bytes. Assumes nothing.
use Prim.Native.Nat.{ℕ, zero, suc, ◌+◌}
use native.Mathlib.Nat.{zero-lt-suc}
use mathlib.Core.List.{List, [], ◌∷◌, ◌++◌}
use lib.{ListN.{get_or, take, drop}, Seq.get_or-drop}
use Rattle.bits.specs.Bits.{Bytes}
use Rattle.bits.proofs.BytesLaws.{bytes_take, bytes_drop, bytes_get_d}
use Rattle.aes_words.specs.Words.{Words, in_fours}
use Rattle.aes_steps.specs.Blocks.{byte_at}
use Rattle.key_expansion.specs.KeyExpansion.{next_word, grown, round_keys}
use Rattle.aes.specs.Cipher.{round_key}
use Rattle.mix_laws.specs.Blocks.{SmallWord, Small}
use Rattle.cipher_laws.proofs.WordLaws.{next_word_small}

words_small : (n : ℕ) (bytes : List ℕ) → Bytes bytes → Small (in_fours n bytes)
unfolding in_fours byte_at
words_small zero bytes small r c = zero-lt-suc 255
words_small (suc n) bytes small r zero = bytes_get_d (take 4 bytes) (bytes_take 4 bytes small) r
words_small (suc n) bytes small r (suc c) = words_small n (drop 4 bytes) (bytes_drop 4 bytes small) r c

snoc_small : (ws : Words) (w : List ℕ) → Small ws → SmallWord w → Small (ws ++ (w ∷ []))
unfolding byte_at
snoc_small [] w small last r zero = last r
snoc_small [] w small last r (suc c) = zero-lt-suc 255
snoc_small (v ∷ ws) w small last r zero = small r zero
snoc_small (v ∷ ws) w small last r (suc c) = snoc_small ws w (λ r c. small r (suc c)) last r c

grown_small : (n : ℕ) (ws : Words) → Small ws → Small (grown n ws)
unfolding grown
grown_small zero ws small = small
grown_small (suc n) ws small =
    let before = grown_small n ws small in
    snoc_small (grown n ws) (next_word (grown n ws) (8 + n)) before (next_word_small (grown n ws) (8 + n) before)

take_small : (n : ℕ) (ws : Words) → Small ws → Small (take n ws)
unfolding byte_at
take_small zero ws small r c = zero-lt-suc 255
take_small (suc n) [] small r c = zero-lt-suc 255
take_small (suc n) (w ∷ ws) small r zero = small r zero
take_small (suc n) (w ∷ ws) small r (suc c) = take_small n ws (λ r c. small r (suc c)) r c

drop_small : (n : ℕ) (ws : Words) → Small ws → Small (drop n ws)
unfolding byte_at
drop_small n ws small r c = rw get_or-drop (small r (n + c))

fours_small : (n : ℕ) (ws : Words) → Small ws → (i : ℕ) → Small (get_or (in_fours n ws) i [])
unfolding in_fours byte_at
fours_small zero ws small i = λ r c. zero-lt-suc 255
fours_small (suc n) ws small zero = take_small 4 ws small
fours_small (suc n) ws small (suc i) = fours_small n (drop 4 ws) (drop_small 4 ws small) i

pub round_key_small : (key : List ℕ) → Bytes key → (r : ℕ) → Small (round_key (round_keys key) r)
unfolding round_key round_keys
round_key_small key small = fours_small 15 (grown 52 (in_fours 8 key)) (grown_small 52 (in_fours 8 key) (words_small 8 key small))
