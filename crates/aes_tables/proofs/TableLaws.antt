-- What stands in the tables. Assumes nothing.
use Prim.Native.Nat.{ℕ, ◌+◌, ◌%◌, ◌<◌}
use native.Mathlib.Omega.{arith}
use mathlib.Core.{Path.{◌≡◌, ap, ap₂}, List.{List, [], ◌∷◌}}
use lib.ListN.{get_or}
use Rattle.bits.specs.Bits.{entries}
use Rattle.bits.proofs.EntriesLaws.{entries_from_0, entries_same}
use Rattle.aes_tables.specs.SBox.{bit, byte_of, affine, inverse_affine, substituted, restored, cipher_tables}
use Rattle.aes_tables.proofs.InverseLaws.{inverses, inverse_at}

-- eight bits are a byte
byte_of_bits : (f : ℕ → ℕ) → byte_of (λ i. f i % 2) < 256
unfolding byte_of
byte_of_bits f = omega arith

pub affine_byte : (b : ℕ) → affine b < 256
unfolding affine
affine_byte b = byte_of_bits (λ i. bit b i + bit b (i + 4) + bit b (i + 5) + bit b (i + 6) + bit b (i + 7) + bit 0x63 i)

pub inverse_affine_byte : (b : ℕ) → inverse_affine b < 256
unfolding inverse_affine
inverse_affine_byte b = byte_of_bits (λ i. bit b (i + 2) + bit b (i + 5) + bit b (i + 7) + bit 0x05 i)

pub substituted_at : (b : ℕ) → b < 256 → get_or (get_or cipher_tables 0 []) b 0 ≡ substituted b
unfolding cipher_tables
substituted_at = entries_from_0 substituted 0 256

pub restored_at : (b : ℕ) → b < 256 → get_or (get_or cipher_tables 1 []) b 0 ≡ restored b
unfolding cipher_tables
restored_at = entries_from_0 restored 0 256

-- the same by inverses that are looked up
pub tables_looked_up : cipher_tables
    ≡ entries (λ b. affine (get_or inverses b 0)) 256 0 ∷ entries (λ b. get_or inverses (inverse_affine b) 0) 256 0 ∷ []
unfolding cipher_tables substituted restored
tables_looked_up =
    ap₂ (λ (one other : List ℕ). one ∷ other ∷ [])
    (entries_same substituted (λ b. affine (get_or inverses b 0)) 256 0 (λ (b : ℕ) h. ap affine (inverse_at b h)))
    (entries_same restored (λ b. get_or inverses (inverse_affine b) 0) 256 0 (λ (b : ℕ) h. inverse_at (inverse_affine b) (inverse_affine_byte b)))
