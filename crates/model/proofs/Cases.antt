-- A claim over a test's value, from the claim where the test is true and the claim where it is false.
-- Assumes nothing.
use Prim.Native.Nat.{ℕ}
use mathlib.Core.{Path.{◌≡◌, refl, sym}, Bool.{Bool, true, false, ◌&&◌, true≢false}}
use lib.Dec.{eqb}
use borrow.Author.Tests.{eqb-true, eqb-false}

pub test_cases : (P : Bool → Type 0) (b : Bool) → (b ≡ true → P true) → (b ≡ false → P false) → P b
test_cases P true f g = f refl
test_cases P false f g = g refl

pub eqb_cases : (P : Bool → Type 0) (a b : ℕ) → (a ≡ b → P true) → ((a ≡ b → ⊥) → P false) → P (eqb a b)
eqb_cases P a b f g = test_cases P (eqb a b) (λ e. f (eqb-true a b e)) (λ e. g (eqb-false a b e))

pub both_true : (a b : Bool) → (a && b) ≡ true → (a ≡ true) × (b ≡ true)
both_true true b e = (refl, e)
both_true false b e = absurd (true≢false (sym e))
