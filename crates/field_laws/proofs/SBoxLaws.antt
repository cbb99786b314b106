-- The S-box and its inverse make bytes, and undo each other. Assumes nothing.
use Prim.Native.Nat.{ℕ, ◌<◌}
use mathlib.Core.Path.{◌≡◌, ap, ◌∙◌}
use Rattle.bits.proofs.TestLaws.{same_below}
use Rattle.aes_tables.specs.Field.{inverse}
use Rattle.aes_tables.specs.SBox.{bit, byte_of, affine, inverse_affine, substituted, restored}
use Rattle.aes_tables.proofs.TableLaws.{affine_byte, inverse_affine_byte}
use Rattle.field_laws.proofs.InverseLaws.{inverse_byte, inverse_inverse}

pub substituted_byte : (b : ℕ) → substituted b < 256
unfolding substituted
substituted_byte b = affine_byte (inverse b)

pub restored_byte : (b : ℕ) → restored b < 256
unfolding restored
restored_byte b = inverse_byte (inverse_affine b)

affine_back : (b : ℕ) → b < 256 → inverse_affine (affine b) ≡ b
unfolding affine inverse_affine byte_of bit
affine_back = same_below (λ b. inverse_affine (affine b)) (λ b. b) 256 tt

inverse_affine_back : (b : ℕ) → b < 256 → affine (inverse_affine b) ≡ b
unfolding affine inverse_affine byte_of bit
inverse_affine_back = same_below (λ b. affine (inverse_affine b)) (λ b. b) 256 tt

pub restored_substituted : (b : ℕ) → b < 256 → restored (substituted b) ≡ b
unfolding substituted restored
restored_substituted b h = ap inverse (affine_back (inverse b) (inverse_byte b)) ∙ inverse_inverse b h

pub substituted_restored : (b : ℕ) → b < 256 → substituted (restored b) ≡ b
unfolding substituted restored
substituted_restored b h = ap affine (inverse_inverse (inverse_affine b) (inverse_affine_byte b)) ∙ inverse_affine_back b h
