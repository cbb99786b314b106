-- Words of four bytes (FIPS 197, 3.5), and what AES does to one (5.2). Assumes nothing.
use Rattle.std.specs.Prelude.{ℕ, zero, suc, List, [], ◌∷◌}
use lib.{Bits.bit_xor, ListN.{get_or, take, drop}}
use Rattle.bits.specs.Bits.{entries}
use Rattle.aes_tables.specs.SBox.{substituted}

-- words of four bytes: a block is four of them
abbrev pub Words : Type 0
Words = List (List ℕ)

-- the word with these bytes, and a word with each byte made another one
unfoldable pub word : (ℕ → ℕ) → List ℕ
word f = entries f 4 0

unfoldable pub each_byte : (ℕ → ℕ) → List ℕ → List ℕ
each_byte f w = word (λ r. f (get_or w r 0))

-- a list in n pieces of four: bytes as words, and words as blocks
unfoldable pub in_fours : {A : Type 0} → ℕ → List A → List (List A)
in_fours zero list = []
in_fours (suc n) list = take 4 list ∷ in_fours n (drop 4 list)

-- the S-box on each byte of a word
unfoldable pub sub_word : List ℕ → List ℕ
sub_word w = each_byte substituted w

-- the sum of two words
unfoldable pub add_word : List ℕ → List ℕ → List ℕ
add_word w v = word (λ r. bit_xor (get_or w r 0) (get_or v r 0))
