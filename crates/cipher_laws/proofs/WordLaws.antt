-- The words that the key expansion makes of words of bytes are words of bytes. Assumes nothing.
use Prim.Native.Nat.{ℕ, zero, suc, ◌-◌, ◌/◌, ◌%◌, ◌<◌}
use mathlib.Core.{Bool.{Bool, true, false, cond}, List.{List, []}}
use lib.{Bits.{bit_xor, xor_lt}, Dec.{eqb, lit<}, ListN.get_or}
use Rattle.bits.proofs.BytesLaws.{bytes_get_d}
use Rattle.aes_words.specs.Words.{Words, each_byte, sub_word, add_word}
use Rattle.aes_steps.specs.Blocks.{byte_at}
use Rattle.aes_tables.specs.SBox.{substituted}
use Rattle.key_expansion.specs.KeyExpansion.{rot_word}
use Rattle.aes_mixing.proofs.FieldLaws.{product_2, product_byte}
use Rattle.key_expansion.specs.KeyExpansion.{power_of_x, round_constant, turned, next_word}
use Rattle.mix_laws.specs.Blocks.{SmallWord, Small}
use Rattle.mix_laws.proofs.BlockLaws.{word_small}
use Rattle.field_laws.proofs.SBoxLaws.{substituted_byte}

power_byte : (n : ℕ) → power_of_x n < 256
unfolding power_of_x
power_byte zero = lit< tt
power_byte (suc n) = rw product_2 at (product_byte 2 (power_of_x n) (power_byte n))

round_constant_small : (j : ℕ) → SmallWord (round_constant j)
unfolding round_constant
round_constant_small j = bytes_get_d (round_constant j) (power_byte (j - 1), (lit< tt, (lit< tt, (lit< tt, tt))))

sub_word_small : (w : List ℕ) → SmallWord (sub_word w)
unfolding sub_word each_byte
sub_word_small w = word_small (λ r. substituted (get_or w r 0)) (λ r. substituted_byte (get_or w r 0))

add_word_small : (w v : List ℕ) → SmallWord w → SmallWord v → SmallWord (add_word w v)
unfolding add_word
add_word_small w v hw hv = word_small (λ r. bit_xor (get_or w r 0) (get_or v r 0)) (λ r. xor_lt 8 (get_or w r 0) (get_or v r 0) (hw r) (hv r))

turned_small : (i : ℕ) (w : List ℕ) → SmallWord w → SmallWord (turned i w)
unfolding turned
turned_small i w small = go (eqb (i % 8) 0) (eqb (i % 8) 4)
  where
    go : (a b : Bool) → SmallWord (cond a (add_word (sub_word (rot_word w)) (round_constant (i / 8))) (cond b (sub_word w) w))
    go true b = add_word_small (sub_word (rot_word w)) (round_constant (i / 8)) (sub_word_small (rot_word w)) (round_constant_small (i / 8))
    go false true = sub_word_small w
    go false false = small

pub next_word_small : (ws : Words) (i : ℕ) → Small ws → SmallWord (next_word ws i)
unfolding next_word byte_at
next_word_small ws i small =
    add_word_small (get_or ws (i - 8) []) (turned i (get_or ws (i - 1) [])) (λ r. small r (i - 8))
    (turned_small i (get_or ws (i - 1) []) (λ r. small r (i - 1)))
