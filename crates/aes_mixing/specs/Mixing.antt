-- The mixing of a block's columns (FIPS 197, 5.1.3 and 5.3.3). Assumes nothing.
use Rattle.std.specs.Prelude.{ℕ, ◌+◌, ◌%◌, List, []}
use lib.{Bits.bit_xor, ListN.get_or}
use Rattle.bits.specs.Bits.{entries}
use Rattle.aes_tables.specs.Field.{product}
use Rattle.aes_words.specs.Words.{Words, word}

-- the sum of four products
unfoldable pub mixed : ℕ → ℕ → ℕ → ℕ → ℕ → ℕ → ℕ → ℕ → ℕ
mixed j k l m w x y z = bit_xor (bit_xor (product j w) (product k x)) (bit_xor (product l y) (product m z))

-- a column times the matrix whose row 0 is j k l m, and each later row the one before it moved to the right by one, around
unfoldable pub mixed_word : ℕ → ℕ → ℕ → ℕ → List ℕ → List ℕ
mixed_word j k l m w =
    word (λ r. mixed j k l m (get_or w r 0) (get_or w ((r + 1) % 4) 0) (get_or w ((r + 2) % 4) 0) (get_or w ((r + 3) % 4) 0))

-- .. each column of a block
unfoldable pub each_column : (List ℕ → List ℕ) → Words → Words
each_column f s = entries (λ c. f (get_or s c [])) 4 0

-- MixColumns, and its inverse
unfoldable pub mix_columns : Words → Words
mix_columns s = each_column (mixed_word 0x02 0x03 0x01 0x01) s

unfoldable pub inv_mix_columns : Words → Words
inv_mix_columns s = each_column (mixed_word 0x0E 0x0B 0x0D 0x09) s
