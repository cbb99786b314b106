-- Inverses in the field: a byte times its inverse is 1, and the inverse of the inverse is the byte itself. Assumes nothing.
use Prim.Native.Nat.{ℕ, zero, suc, ◌<◌}
use native.Mathlib.Nat.{le_of_suc-le-suc}
use mathlib.Core.Path.{◌≡◌, refl, ap, ◌∙◌}
use lib.{Dec.lit<, ListN.get_or}
use Rattle.bits.proofs.TestLaws.{same_below}
use Rattle.aes_tables.specs.Field.{times_x, where_set, product_of, product, squares, inverse}
use Rattle.aes_tables.proofs.InverseLaws.{inverses, inverse_at}
use Rattle.aes_mixing.proofs.FieldLaws.{product_byte}

squares_byte : (n a : ℕ) → squares n a < 256
unfolding squares
squares_byte zero a = lit< tt
squares_byte (suc n) a = product_byte (product a a) (squares n (product a a)) (squares_byte n (product a a))

pub inverse_byte : (a : ℕ) → inverse a < 256
unfolding inverse
inverse_byte = squares_byte 7

product_looked_up : (a : ℕ) → a < 255 → product (suc a) (get_or inverses (suc a) 0) ≡ 1
unfolding inverses product product_of where_set times_x
product_looked_up = same_below (λ a. product (suc a) (get_or inverses (suc a) 0)) (λ a. 1) 255 tt

pub product_inverse : (a : ℕ) → a < 256 → (a ≡ 0 → ⊥) → product a (inverse a) ≡ 1
product_inverse zero h n = absurd (n refl)
product_inverse (suc a) h n = ap (product (suc a)) (inverse_at (suc a) h) ∙ product_looked_up a (le_of_suc-le-suc h)

twice_looked_up : (a : ℕ) → a < 256 → get_or inverses (get_or inverses a 0) 0 ≡ a
unfolding inverses
twice_looked_up = same_below (λ a. get_or inverses (get_or inverses a 0) 0) (λ a. a) 256 tt

pub inverse_inverse : (a : ℕ) → a < 256 → inverse (inverse a) ≡ a
inverse_inverse a h =
    inverse_at (inverse a) (inverse_byte a) ∙ ap (λ (b : ℕ). get_or inverses b 0) (inverse_at a h) ∙ twice_looked_up a h
