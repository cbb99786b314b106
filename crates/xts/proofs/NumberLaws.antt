-- The bytes of a number, as the methods of integers give them. Assumes nothing.
use Prim.Native.Nat.{ℕ, zero, suc, ◌/◌, ◌%◌, ◌^◌}
use native.Mathlib.Nat.{div-div-eq-div-mul, div-one, pow-suc}
use mathlib.Core.Path.{◌≡◌, refl, sym, ap, ap₂, ◌∙◌}
use mathlib.Core.List.{◌∷◌}
use Rattle.std.specs.Int.{bytes_low_first, byte_at}
use Rattle.numbers.specs.Numbers.{little_endian_bytes}

byte_is : (i n : ℕ) → byte_at i n ≡ n / 256 ^ i % 256
byte_is zero n = ap (λ (m : ℕ). m % 256) (sym (div-one n))
byte_is (suc i) n = refl

low_first : (i k n : ℕ) → bytes_low_first i k n ≡ little_endian_bytes k (n / 256 ^ i)
unfolding little_endian_bytes
low_first i zero n = refl
low_first i (suc k) n =
    ap₂ ◌∷◌ (byte_is i n)
    (low_first (suc i) k n ∙ ap (little_endian_bytes k) (ap (λ (m : ℕ). n / m) (pow-suc 256 i) ∙ sym (div-div-eq-div-mul n (256 ^ i) 256)))

pub little_endian_of : (k n : ℕ) → bytes_low_first 0 k n ≡ little_endian_bytes k n
little_endian_of k n = low_first 0 k n ∙ ap (little_endian_bytes k) (div-one n)
