-- Two tests are equal where the facts that they test follow from each other.
-- Assumes nothing.
use mathlib.Core.{Path.{◌≡◌, refl}, Bool.{Bool, true, false}}
use Rattle.std.proofs.Common.{ℕ, ◌≤◌, T, eqb, leb, le→leb, leb→le, eqb-true}
use borrow.Author.Tests.{eqb-false}

pub bool_iff : (a b : Bool) → (T a → T b) → (T b → T a) → a ≡ b
bool_iff true true f g = refl
bool_iff true false f g = absurd (f tt)
bool_iff false true f g = absurd (g tt)
bool_iff false false f g = refl

pub leb_iff : (a b c d : ℕ) → (a ≤ b → c ≤ d) → (c ≤ d → a ≤ b) → leb a b ≡ leb c d
leb_iff a b c d f g = bool_iff (leb a b) (leb c d) (λ t. le→leb c d (f (leb→le a b t))) (λ t. le→leb a b (g (leb→le c d t)))

pub eqb_iff : (a b c d : ℕ) → (a ≡ b → c ≡ d) → (c ≡ d → a ≡ b) → eqb a b ≡ eqb c d
eqb_iff a b c d f g = go (eqb a b) (eqb c d) refl refl
  where
    go : (p q : Bool) → eqb a b ≡ p → eqb c d ≡ q → p ≡ q
    go true true e h = refl
    go true false e h = absurd (eqb-false c d h (f (eqb-true a b e)))
    go false true e h = absurd (eqb-false a b e (g (eqb-true c d h)))
    go false false e h = refl
