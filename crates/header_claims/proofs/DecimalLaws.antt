-- A number of 64 bits in decimal: ASCII digits that spell it, and a 0 in front stands alone.
-- Assumes nothing.
use Prim.Native.Nat.{ℕ, zero, suc, ◌+◌, ◌-◌, ◌*◌, ◌/◌, ◌%◌, ◌^◌, ◌≤◌, ◌<◌}
use native.Mathlib.Nat.{pow-suc, mod-lt, zero-lt-suc}
use native.Mathlib.Omega.{arith}
use mathlib.Core.{Path.{◌≡◌, refl, ◌∙◌}, List.{List, [], ◌∷◌, ◌++◌}}
use lib.{ListN.{length, get_or, length-append, get_or-append}, Seq.get_or-append_seam}
use Rattle.map_output.specs.Decimal.{digits, decimal}
use Rattle.map_output.proofs.DigitLaws.{digits_more}
use Rattle.header_claims.specs.MapProgram.{spelled, IsDecimal}
use Rattle.header_claims.proofs.Reflects.{below_suc}

spelled_append : (a : ℕ) (xs ys : List ℕ) → spelled a (xs ++ ys) ≡ spelled (spelled a xs) ys
unfolding spelled
spelled_append a [] ys = refl
spelled_append a (x ∷ xs) ys = spelled_append (a * 10 + (x - 48)) xs ys

-- a number's digits before the last, and the last
spelled_last : (number : ℕ) (front : List ℕ) → spelled 0 front ≡ number / 10 → spelled 0 (front ++ ((48 + number % 10) ∷ [])) ≡ number
unfolding spelled
spelled_last number front e = spelled_append 0 front ((48 + number % 10) ∷ []) ∙ omega arith

digits_spell : (most number : ℕ) → number < 10 ^ most → spelled 0 (digits most number) ≡ number
unfolding spelled digits
digits_spell zero number h = omega arith
digits_spell (suc most) zero h = refl
digits_spell (suc most) (suc n) h =
    let k : suc n < 10 ^ most * 10 = rw pow-suc at h in
    rw (digits_more most (suc n) (omega arith)) (spelled_last (suc n) (digits most (suc n / 10)) (digits_spell most (suc n / 10) (omega arith)))

-- a byte is an ASCII digit
abbrev Digit : ℕ → Type 0
Digit byte = (48 ≤ byte) × (byte ≤ 57)

digits_last : (front : List ℕ) (digit : ℕ) → digit < 10 → ((i : ℕ) → i < length front → Digit (get_or front i 0))
    → (i : ℕ) → i < length (front ++ ((48 + digit) ∷ [])) → Digit (get_or (front ++ ((48 + digit) ∷ [])) i 0)
digits_last front digit small each i h =
    let size = length-append front ((48 + digit) ∷ []) in
    below_suc (λ (k : ℕ). Digit (get_or (front ++ ((48 + digit) ∷ [])) k 0)) (length front)
    (λ k l. rw (get_or-append front ((48 + digit) ∷ []) 0 k l) (each k l))
    (rw (get_or-append_seam front (48 + digit) [] 0) (omega arith, omega arith)) i (omega arith)

digits_each : (most number i : ℕ) → i < length (digits most number) → Digit (get_or (digits most number) i 0)
unfolding digits
digits_each zero number = λ i h. absurd (omega arith)
digits_each (suc most) zero = λ i h. absurd (omega arith)
digits_each (suc most) (suc n) =
    rw (digits_more most (suc n) (omega arith))
    (digits_last (digits most (suc n / 10)) (suc n % 10) (mod-lt (suc n) (zero-lt-suc 9)) (digits_each most (suc n / 10)))

-- where there are digits, the first is not 0
digits_some : (most number : ℕ) → 0 < number → number < 10 ^ most → 0 < length (digits most number)
digits_some zero number positive h = absurd (omega arith)
digits_some (suc most) number positive h = rw (digits_more most number positive, length-append) (omega arith)

none_before : (most number front : ℕ) → number / 10 ≡ front → 0 < number → front < 10 ^ most → length (digits most front) ≡ 0 → 0 < number % 10
none_before most number zero e positive small none = omega arith
none_before most number (suc front) e positive small none = absurd (omega (arith, digits_some most (suc front) (zero-lt-suc front) small))

first_last : (front : List ℕ) (digit : ℕ) → (0 < length front → 48 < get_or front 0 0) → (length front ≡ 0 → 0 < digit)
    → 48 < get_or (front ++ ((48 + digit) ∷ [])) 0 0
first_last [] digit f g = omega (arith, g refl)
first_last (b ∷ bs) digit f g = f (zero-lt-suc (length bs))

digits_first : (most number : ℕ) → number < 10 ^ most → 0 < length (digits most number) → 48 < get_or (digits most number) 0 0
unfolding digits
digits_first zero number h some = absurd (omega arith)
digits_first (suc most) zero h some = absurd (omega arith)
digits_first (suc most) (suc n) h some =
    let k : suc n < 10 ^ most * 10 = rw pow-suc at h in
    let small : suc n / 10 < 10 ^ most = omega arith in
    rw (digits_more most (suc n) (omega arith))
    (first_last (digits most (suc n / 10)) (suc n % 10) (digits_first most (suc n / 10) small) (none_before most (suc n) (suc n / 10) refl (omega arith) small))

alone_last : (front : List ℕ) (digit : ℕ) → (0 < length front → 48 < get_or front 0 0) → get_or (front ++ ((48 + digit) ∷ [])) 0 0 ≡ 48
    → length (front ++ ((48 + digit) ∷ [])) ≡ 1
alone_last [] digit f e = refl
alone_last (b ∷ bs) digit f e = absurd (omega (arith, f (zero-lt-suc (length bs)), e))

pub is_decimal : (number : ℕ) → number < 2 ^ 64 → IsDecimal number (decimal number)
unfolding decimal
is_decimal number h =
    let front : List ℕ = digits 19 (number / 10) in
    let small : number / 10 < 10 ^ 19 = omega arith in
    record {
      some = rw length-append (omega arith);
      digits = digits_last front (number % 10) (mod-lt number (zero-lt-suc 9)) (digits_each 19 (number / 10));
      spells = spelled_last number front (digits_spell 19 (number / 10) small);
      alone = alone_last front (number % 10) (digits_first 19 (number / 10) small);
    }
