-- MixColumns and its inverse undo each other: the product of their matrices is 1. Assumes nothing.
use Prim.Native.Nat.{ℕ, ◌+◌, ◌%◌, ◌<◌}
use mathlib.Core.{Path.{◌≡◌, sym, ap, ap₂, fun_ext, ◌∙◌}, List.{List, [], ◌∷◌}}
use lib.{Bits.{bit_xor, xor_comm, xor_lt, xor_zero_r}, Dec.{T, eqb}, ListN.get_or}
use Rattle.bits.specs.Bits.{entries}
use Rattle.bits.proofs.{TestLaws.{all_below, same_below}, XorLaws.{xor_assoc, xor_left_comm}}
use Rattle.aes_tables.specs.Field.{times_x, where_set, product_of, product}
use Rattle.aes_words.specs.Words.{Words, word}
use Rattle.aes_steps.specs.Blocks.{byte_at, block}
use Rattle.aes_mixing.specs.Mixing.{mixed, mixed_word, each_column, mix_columns, inv_mix_columns}
use Rattle.aes_mixing.proofs.FieldLaws.{product_sum, product_byte}
use Rattle.mix_laws.specs.Blocks.{SmallWord, Small, Block, Undone, Inverses}
use Rattle.mix_laws.proofs.BlockLaws.{block_block}

-- the same at every byte, by a test
abbrev Alike : (ℕ → ℕ) → (ℕ → ℕ) → Type 0
Alike f g = T (all_below (λ w. eqb (f w) (g w)) 256)

-- the matrix whose row 0 is j k l m
module _ (j k l m : ℕ) where
  mixed_byte : (w x y z : ℕ) → w < 256 → x < 256 → y < 256 → z < 256 → mixed j k l m w x y z < 256
  unfolding mixed
  mixed_byte w x y z hw hx hy hz =
      xor_lt 8 (bit_xor (product j w) (product k x)) (bit_xor (product l y) (product m z))
      (xor_lt 8 (product j w) (product k x) (product_byte j w hw) (product_byte k x hx))
      (xor_lt 8 (product l y) (product m z) (product_byte l y hy) (product_byte m z hz))

  mixed_block : (s : Words) → Small s → Block (each_column (mixed_word j k l m) s)
  unfolding each_column mixed_word block word entries byte_at
  mixed_block s small =
      let next : ℕ → ℕ → ℕ = λ n r. (r + n) % 4 in
      block_block (λ r c. mixed j k l m (byte_at s r c) (byte_at s (next 1 r) c) (byte_at s (next 2 r) c) (byte_at s (next 3 r) c))
      (λ r c.
      mixed_byte (byte_at s r c) (byte_at s (next 1 r) c) (byte_at s (next 2 r) c) (byte_at s (next 3 r) c)
      (small r c) (small (next 1 r) c) (small (next 2 r) c) (small (next 3 r) c))

  -- its row 0 times the column n o p q of another one, and that times a byte
  abbrev entry : ℕ → ℕ → ℕ → ℕ → ℕ → ℕ
  entry n o p q w = mixed j k l m (product n w) (product o w) (product p w) (product q w)

-- .. after the one whose row 0 is e f g h
module _ (j k l m e f g h : ℕ) where
  -- the first of four bytes that have gone through both
  abbrev both : ℕ → ℕ → ℕ → ℕ → ℕ
  both w x y z = mixed j k l m (mixed e f g h w x y z) (mixed e f g h x y z w) (mixed e f g h y z w x) (mixed e f g h z w x y)

  both_entries : (w x y z : ℕ)
      → both w x y z
      ≡ bit_xor (bit_xor (entry j k l m e h g f w) (entry j k l m f e h g x)) (bit_xor (entry j k l m g f e h y) (entry j k l m h g f e z))
  unfolding mixed
  both_entries w x y z = simp (product_sum, xor_assoc, xor_comm, xor_left_comm)

  -- their product is 1, by four tests at every byte
  abbrev One : Type 0
  One = Alike (entry j k l m e h g f) (λ w. w) × Alike (entry j k l m f e h g) (λ w. 0)
      × Alike (entry j k l m g f e h) (λ w. 0) × Alike (entry j k l m h g f e) (λ w. 0)

  module _ (one : One) where
    both_first : (w x y z : ℕ) → w < 256 → x < 256 → y < 256 → z < 256 → both w x y z ≡ w
    both_first w x y z hw hx hy hz =
        let first = same_below (entry j k l m e h g f) (λ w. w) 256 one.0 w hw in
        let second = same_below (entry j k l m f e h g) (λ w. 0) 256 one.1 x hx in
        let third = same_below (entry j k l m g f e h) (λ w. 0) 256 one.2 y hy in
        let fourth = same_below (entry j k l m h g f e) (λ w. 0) 256 one.3 z hz in
        both_entries w x y z ∙ ap₂ bit_xor (ap₂ bit_xor first second) (ap₂ bit_xor third fourth) ∙ xor_zero_r (bit_xor w 0) ∙ xor_zero_r w

    word_back : (w : List ℕ) → SmallWord w → mixed_word j k l m (mixed_word e f g h w) ≡ word (λ r. get_or w r 0)
    unfolding mixed_word word entries
    word_back w small = λ i. at 0 1 2 3 i ∷ at 1 2 3 0 i ∷ at 2 3 0 1 i ∷ at 3 0 1 2 i ∷ []
      where
        at : (n o p q : ℕ) → both (get_or w n 0) (get_or w o 0) (get_or w p 0) (get_or w q 0) ≡ get_or w n 0
        at n o p q = both_first (get_or w n 0) (get_or w o 0) (get_or w p 0) (get_or w q 0) (small n) (small o) (small p) (small q)

    columns_undone : Undone (each_column (mixed_word e f g h)) (each_column (mixed_word j k l m))
    unfolding each_column mixed_word block word entries byte_at
    columns_undone =
        record {
          kept = λ s b. mixed_block e f g h s b.small;
          back = λ s b.
              ap (λ (column : ℕ → List ℕ). entries column 4 0) (fun_ext (λ c. word_back (get_or s c []) (λ r. b.small r c))) ∙ sym b.shaped;
        }

pub mix_columns_inverses : Inverses mix_columns inv_mix_columns
unfolding mix_columns inv_mix_columns mixed product product_of where_set times_x
mix_columns_inverses = (columns_undone 0x0E 0x0B 0x0D 0x09 0x02 0x03 0x01 0x01 (tt, tt, tt, tt), columns_undone 0x02 0x03 0x01 0x01 0x0E 0x0B 0x0D 0x09 (tt, tt, tt, tt))
