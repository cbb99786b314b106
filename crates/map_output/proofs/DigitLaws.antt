-- A number's decimal digits are those that the library prints. Assumes nothing.
use mathlib.Core.{Path.{◌≡◌, refl, sym, ap, ◌∙◌}, List.{List, [], ◌∷◌, ◌++◌}}
use Prim.Native.Nat.{ℕ, zero, suc, ◌+◌, ◌*◌, ◌/◌, ◌%◌, ◌^◌, ◌<◌}
use native.Mathlib.Nat.{pow-suc}
use native.Mathlib.Omega.{arith}
use borrow.Author.Tests.{ne_eqb}
use Rattle.std.proofs.Common.{eq-zero-or-pos, inl, inr}
use Rattle.std.specs.Fmt as printed
use Rattle.std.proofs.lemmas.Fmt.{decimal_digit, decimal_step}
use Rattle.map_output.specs.Decimal.{digits, decimal}

pub digits_none : (most : ℕ) → digits most 0 ≡ []
unfolding digits
digits_none zero = refl
digits_none (suc most) = refl

pub digits_more : (most number : ℕ) → 0 < number → digits (suc most) number ≡ digits most (number / 10) ++ ((48 + number % 10) ∷ [])
unfolding digits
digits_more most number h = rw (ne_eqb number 0 (λ e. omega arith))

-- the digits of a number that has some are those that the library prints
digits_printed : (most number : ℕ) → 0 < number → number < 10 ^ most → number < 2 ^ 64 → digits most number ≡ printed.decimal number
digits_printed zero number positive few fits = absurd (omega arith)
digits_printed (suc most) number positive few fits =
    let fewer : number < 10 ^ most * 10 = rw pow-suc at few in
    let last : List ℕ = (48 + number % 10) ∷ [] in
    digits_more most number positive ∙ elim (eq-zero-or-pos (number / 10)) [
      | inl none ↦
          let one : number % 10 ≡ number = omega arith in
          rw (none, digits_none, one) (sym (decimal_digit number (omega arith)))
      | inr some ↦
          ap (λ (front : List ℕ). front ++ last) (digits_printed most (number / 10) some (omega arith) (omega arith))
          ∙ sym (decimal_step number (omega arith) fits)
    ]

pub decimal_printed : (number : ℕ) → number < 2 ^ 64 → printed.decimal number ≡ decimal number
unfolding decimal
decimal_printed number fits =
    elim (eq-zero-or-pos number) [
      | inl none ↦ rw none (decimal_digit 0 (omega arith) ∙ ap (λ (front : List ℕ). front ++ (48 ∷ [])) (sym (digits_none 19)))
      | inr some ↦ sym (sym (digits_more 19 number some) ∙ digits_printed 20 number some (omega arith) fits)
    ]
