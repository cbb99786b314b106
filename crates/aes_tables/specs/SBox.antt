-- The substitution of bytes (FIPS 197, 5.1.1 and 5.3.2): the inverse in the field and an affine map of bits. Assumes nothing.
use Rattle.std.specs.Prelude.{ℕ, ◌+◌, ◌*◌, ◌/◌, ◌%◌, ◌^◌}
use mathlib.Core.{Path.◌≡◌, List.{List, [], ◌∷◌}}
use Rattle.bits.specs.Bits.{entries}
use Rattle.aes_tables.specs.Field.{inverse}

-- bit i of a byte, counted around
unfoldable pub bit : ℕ → ℕ → ℕ
bit b i = b / 2 ^ (i % 8) % 2

-- the byte with these bits
unfoldable pub byte_of : (ℕ → ℕ) → ℕ
byte_of f = f 0 + 2 * f 1 + 4 * f 2 + 8 * f 3 + 16 * f 4 + 32 * f 5 + 64 * f 6 + 128 * f 7

-- the affine map: bit i is the sum of bits i, i+4, i+5, i+6 and i+7, and of bit i of 63
unfoldable pub affine : ℕ → ℕ
affine b = byte_of (λ i. (bit b i + bit b (i + 4) + bit b (i + 5) + bit b (i + 6) + bit b (i + 7) + bit 0x63 i) % 2)

-- its inverse: bit i is the sum of bits i+2, i+5 and i+7, and of bit i of 05
unfoldable pub inverse_affine : ℕ → ℕ
inverse_affine b = byte_of (λ i. (bit b (i + 2) + bit b (i + 5) + bit b (i + 7) + bit 0x05 i) % 2)

-- the S-box
unfoldable pub substituted : ℕ → ℕ
substituted b = affine (inverse b)

-- .. and its inverse
unfoldable pub restored : ℕ → ℕ
restored b = inverse (inverse_affine b)

-- both at every byte: the two tables that the code looks them up in
unfoldable pub cipher_tables : List (List ℕ)
cipher_tables = entries substituted 256 0 ∷ entries restored 256 0 ∷ []

-- what holds of an answer that is looked up in these tables; with others it is left free
abbrev pub ByTables : List (List ℕ) → Type 0 → Type 0
ByTables tables Holds = tables ≡ cipher_tables → Holds
