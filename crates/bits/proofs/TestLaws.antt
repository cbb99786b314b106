-- A test computed at each number below a limit, and what it shows of each of them.
-- Assumes nothing.
use Prim.Native.Nat.{ℕ, zero, suc, ◌<◌}
use native.Mathlib.Nat.{le_of_suc-le-suc, not-suc-le-zero}
use native.Mathlib.Decide.{ℕ_discrete}
use mathlib.Core.{Path.{◌≡◌, sym, subst}, Bool.{Bool, true, false}}
use lib.{Arith.lt_of_le-ne, Dec.{T, eqb, eqb→eq}}

-- one after another, so that a test that fails ends the computation
abbrev pub both : Bool → Bool → Bool
both true b = b
both false b = false

both_left : (a b : Bool) → T (both a b) → T a
both_left true b t = tt
both_left false b t = t

both_right : (a b : Bool) → T (both a b) → T b
both_right true b t = t
both_right false b t = absurd t

-- the test at each number below the limit
abbrev pub all_below : (ℕ → Bool) → ℕ → Bool
all_below test zero = true
all_below test (suc n) = both (test n) (all_below test n)

pub true_below : (test : ℕ → Bool) (n : ℕ) → T (all_below test n) → (k : ℕ) → k < n → T (test k)
true_below test zero t k h = absurd (not-suc-le-zero h)
true_below test (suc n) t k h = go (ℕ_discrete k n) (true_below test n (both_right (test n) (all_below test n) t) k)
  where
    go : Dec (k ≡ n) → (k < n → T (test k)) → T (test k)
    go (yes e) r = subst (λ (m : ℕ). T (test m)) (sym e) (both_left (test n) (all_below test n) t)
    go (no ne) r = r (lt_of_le-ne (le_of_suc-le-suc h) ne)

-- two functions agree on each number below the limit
pub same_below : (f g : ℕ → ℕ) (n : ℕ) → T (all_below (λ k. eqb (f k) (g k)) n) → (k : ℕ) → k < n → f k ≡ g k
same_below f g n t k h = eqb→eq (f k) (g k) (true_below (λ k. eqb (f k) (g k)) n t k h)
