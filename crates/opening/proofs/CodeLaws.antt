-- The rule for the codes, one at a time as a loop over an index goes through them: the largest decides for all.
-- Assumes nothing.
use Prim.Native.Nat.{ℕ, zero, suc, ◌+◌, ◌≤◌, ◌<◌}
use native.Mathlib.Nat.{not-suc-le-zero, le_of_suc-le-suc}
use native.Mathlib.Numerals.{add-one}
use native.Mathlib.Omega.{arith}
use mathlib.Core.{Path.{◌≡◌, refl, sym}, Bool.{Bool, true, false, ◌&&◌, and_assoc, and-true}, List.{List, [], ◌∷◌}}
use lib.{Dec.leb, ListN.{length, get_or, drop, drop_of_length-le}, Seq.drop-cons}
use borrow.Author.Tests.{leb-true, le-leb}
use Rattle.layout.proofs.RuleLaws.{and_true_left, and_true_right}
use Rattle.locations.specs.Locations.{code_rule}
use Rattle.opening.specs.Opening.{codes_rule}

codes_rule_drop : (codes : List ℕ) (i : ℕ) → i < length codes
    → codes_rule (drop i codes) ≡ (code_rule (get_or codes i 0) && codes_rule (drop (i + 1) codes))
unfolding codes_rule
codes_rule_drop codes i h = rw (add-one, drop-cons codes i 0)

codes_rule_end : (codes : List ℕ) (i : ℕ) → length codes ≤ i → codes_rule (drop i codes) ≡ true
unfolding codes_rule
codes_rule_end codes i h = rw (drop_of_length-le codes h)

pub codes_rule_at : (codes : List ℕ) (i : ℕ) → i < length codes → codes_rule codes ≡ true → get_or codes i 0 ≤ 3
unfolding codes_rule code_rule
codes_rule_at [] i h e = absurd (not-suc-le-zero h)
codes_rule_at (code ∷ codes) zero h e = leb-true code 3 (and_true_left (leb code 3) (codes_rule codes) e)
codes_rule_at (code ∷ codes) (suc i) h e = codes_rule_at codes i (le_of_suc-le-suc h) (and_true_right (leb code 3) (codes_rule codes) e)

below_both : (a t : Bool) → (t ≡ true → a ≡ true) → t ≡ (a && t)
below_both true t f = refl
below_both false true f = sym (f refl)
below_both false false f = refl

above_both : (a t : Bool) → (a ≡ true → t ≡ true) → a ≡ (a && t)
above_both true t f = sym (f refl)
above_both false t f = refl

-- the larger is known where both are
pub larger_second : (a b : ℕ) → a < b → code_rule b ≡ (code_rule a && code_rule b)
unfolding code_rule
larger_second a b h = below_both (leb a 3) (leb b 3) (λ e. le-leb a 3 (omega (arith, h, leb-true b 3 e)))

pub larger_first : (a b : ℕ) → b ≤ a → code_rule a ≡ (code_rule a && code_rule b)
unfolding code_rule
larger_first a b h = above_both (leb a 3) (leb b 3) (λ e. le-leb b 3 (omega (arith, h, leb-true a 3 e)))

-- a turn of the loop over the codes
pub codes_step : (codes : List ℕ) (i largest next : ℕ) → i < length codes → code_rule next ≡ (code_rule largest && code_rule (get_or codes i 0))
    → (code_rule next && codes_rule (drop (i + 1) codes)) ≡ (code_rule largest && codes_rule (drop i codes))
codes_step codes i largest next h e =
    rw (e, codes_rule_drop codes i h, and_assoc (code_rule largest) (code_rule (get_or codes i 0)) (codes_rule (drop (i + 1) codes)))

-- the loop's end: no code is left
pub codes_end : (codes : List ℕ) (i largest : ℕ) → length codes ≤ i → (code_rule largest && codes_rule (drop i codes)) ≡ code_rule largest
codes_end codes i largest h = rw (codes_rule_end codes i h, and-true (code_rule largest))
