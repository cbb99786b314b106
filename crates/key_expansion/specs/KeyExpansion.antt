-- The key expansion (FIPS 197, 5.2) for keys of 256 bits: sixty words, four for each of fifteen round keys. Assumes nothing.
use Rattle.std.specs.Prelude.{ℕ, zero, suc, ◌+◌, ◌-◌, ◌/◌, ◌%◌}
use mathlib.Core.{Bool.cond, List.{List, [], ◌∷◌, ◌++◌}}
use lib.{Dec.eqb, ListN.get_or}
use Rattle.aes_tables.specs.Field.{times_x}
use Rattle.aes_words.specs.Words.{Words, word, in_fours, sub_word, add_word}

-- the bytes of a word moved to the left by one, around
unfoldable pub rot_word : List ℕ → List ℕ
rot_word w = word (λ r. get_or w ((r + 1) % 4) 0)

-- x to the power n
unfoldable pub power_of_x : ℕ → ℕ
power_of_x zero = 1
power_of_x (suc n) = times_x (power_of_x n)

-- the round constant j, from 1 on: x to the power j - 1, and three zeros
unfoldable pub round_constant : ℕ → List ℕ
round_constant j = power_of_x (j - 1) ∷ 0 ∷ 0 ∷ 0 ∷ []

-- what is made of the word before word i: by every eighth word and the one half-way between, and else nothing
unfoldable pub turned : ℕ → List ℕ → List ℕ
turned i w =
    cond (eqb (i % 8) 0) (add_word (sub_word (rot_word w)) (round_constant (i / 8)))
    (cond (eqb (i % 8) 4) (sub_word w) w)

-- word i, of the words before it
unfoldable pub next_word : Words → ℕ → List ℕ
next_word ws i = add_word (get_or ws (i - 8) []) (turned i (get_or ws (i - 1) []))

-- eight words with n more, each made of those before it
unfoldable pub grown : ℕ → Words → Words
grown zero ws = ws
grown (suc n) ws = let before = grown n ws in before ++ (next_word before (8 + n) ∷ [])

-- the fifteen round keys of a key of 32 bytes
unfoldable pub round_keys : List ℕ → List Words
round_keys key = in_fours 15 (grown 52 (in_fours 8 key))
