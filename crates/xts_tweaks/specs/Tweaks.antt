-- The tweaks of a unit's blocks (IEEE 1619, 5.2): each is α times the one before. Assumes nothing.
use Rattle.std.specs.Prelude.{ℕ, zero, suc, ◌+◌, ◌*◌, ◌/◌, ◌%◌, List, [], ◌∷◌}
use lib.{Bits.bit_xor, ListN.get_or}
use Rattle.aes_words.specs.Words.{Words}
use Rattle.aes_steps.specs.Blocks.{block, block_byte}

-- a byte whose bits move up by one, with what comes into it
unfoldable pub raised : ℕ → ℕ → ℕ
raised carry byte = bit_xor (2 * (byte % 128)) carry

-- a word's bytes so, each with what leaves the one before it
unfoldable pub raised_word : ℕ → List ℕ → List ℕ
raised_word carry w =
    raised carry (get_or w 0 0) ∷ raised (get_or w 0 0 / 128) (get_or w 1 0) ∷ raised (get_or w 1 0 / 128) (get_or w 2 0)
    ∷ raised (get_or w 2 0 / 128) (get_or w 3 0) ∷ []

-- byte k of a block times α: the bits move up by one through the bytes, and what leaves the last comes to the first as 135
unfoldable pub alpha_byte : Words → ℕ → ℕ
alpha_byte t zero = raised (135 * (block_byte t 15 / 128)) (block_byte t 0)
alpha_byte t (suc k) = raised (block_byte t k / 128) (block_byte t (suc k))

-- a block times α
unfoldable pub times_alpha : Words → Words
times_alpha t = block (λ r c. alpha_byte t (4 * c + r))
