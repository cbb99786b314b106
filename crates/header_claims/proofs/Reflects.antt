-- A test reflects a proposition: it is true where that holds, and false where it does not. How tests that are put together reflect.
-- Assumes nothing.
use Prim.Native.Nat.{ℕ, zero, suc, ◌≤◌, ◌<◌}
use native.Mathlib.Nat.{le_of_suc-le-suc}
use native.Mathlib.Omega.{arith}
use mathlib.Core.{Path.{◌≡◌, refl, sym, subst}, Logic.{◌↔◌, ◌⊎◌, inl, inr, ⊎_elim}, Bool.{Bool, true, false, ◌&&◌, ◌||◌, not, true≢false}, List.{List, [], ◌∷◌}}
use lib.{Dec.{leb, eqb}, ListN.{length, get_or}}
use borrow.Author.Tests.{leb-true, leb-false, eqb-true, eqb-false}

pub data Reflects (P : Type 0) : Bool → Type 0 where
  holds : P → Reflects P true
  fails : (P → ⊥) → Reflects P false

pub is_true : {P : Type 0} {b : Bool} → Reflects P b → P → b ≡ true
is_true (holds p) q = refl
is_true (fails f) q = absurd (f q)

pub is_false : {P : Type 0} {b : Bool} → Reflects P b → (P → ⊥) → b ≡ false
is_false (holds p) g = absurd (g p)
is_false (fails f) g = refl

pub holds_true : {P : Type 0} {b : Bool} → Reflects P b → b ≡ true → P
holds_true (holds p) e = p
holds_true (fails f) e = absurd (true≢false (sym e))

pub true_exactly : {P : Type 0} {b : Bool} → Reflects P b → (b ≡ true) ↔ P
true_exactly r = (holds_true r, is_true r)

reflects_by : {P : Type 0} (b : Bool) → (b ≡ true → P) → (b ≡ false → P → ⊥) → Reflects P b
reflects_by true f g = holds (f refl)
reflects_by false f g = fails (g refl)

pub reflects_eqb : (a b : ℕ) → Reflects (a ≡ b) (eqb a b)
reflects_eqb a b = reflects_by (eqb a b) (eqb-true a b) (eqb-false a b)

pub reflects_leb : (a b : ℕ) → Reflects (a ≤ b) (leb a b)
reflects_leb a b = reflects_by (leb a b) (leb-true a b) (λ e h. omega (arith, leb-false a b e))

pub reflects_map : {P Q : Type 0} {b : Bool} → (P → Q) → (Q → P) → Reflects P b → Reflects Q b
reflects_map f g (holds p) = holds (f p)
reflects_map f g (fails h) = fails (λ q. h (g q))

pub reflects_and : {P Q : Type 0} {a b : Bool} → Reflects P a → Reflects Q b → Reflects (P × Q) (a && b)
reflects_and (holds p) (holds q) = holds (p, q)
reflects_and (holds p) (fails g) = fails (λ x. g x.1)
reflects_and (fails f) r = fails (λ x. f x.0)

pub reflects_or : {P Q : Type 0} {a b : Bool} → Reflects P a → Reflects Q b → Reflects (P ⊎ Q) (a || b)
reflects_or (holds p) r = holds (inl p)
reflects_or (fails f) (holds q) = holds (inr q)
reflects_or (fails f) (fails g) = fails (⊎_elim f g)

pub reflects_not : {P : Type 0} {b : Bool} → Reflects P b → Reflects (P → ⊥) (not b)
reflects_not (holds p) = fails (λ f. f p)
reflects_not (fails f) = holds f

-- P at every place of a list
abbrev pub Every : (ℕ → Type 0) → List ℕ → Type 0
Every P xs = (i : ℕ) → i < length xs → P (get_or xs i 0)

every_cons : (P : ℕ → Type 0) (x : ℕ) (xs : List ℕ) → P x → Every P xs → Every P (x ∷ xs)
every_cons P x xs p every zero h = p
every_cons P x xs p every (suc i) h = every i (le_of_suc-le-suc h)

pub reflects_nil : (P : ℕ → Type 0) → Reflects (Every P []) true
reflects_nil P = holds (λ i h. absurd (omega arith))

pub reflects_cons : (P : ℕ → Type 0) (x : ℕ) (xs : List ℕ) {a b : Bool} → Reflects (P x) a → Reflects (Every P xs) b
    → Reflects (Every P (x ∷ xs)) (a && b)
reflects_cons P x xs r s =
    reflects_map (λ p. every_cons P x xs p.0 p.1) (λ every. (every 0 (omega arith), λ i h. every (suc i) (omega arith))) (reflects_and r s)

-- P below k and at k is P below k + 1
pub below_suc : (P : ℕ → Type 0) (k : ℕ) → ((j : ℕ) → j < k → P j) → P k → (j : ℕ) → j < suc k → P j
below_suc P k below p j h = go (reflects_eqb j k)
  where
    go : {b : Bool} → Reflects (j ≡ k) b → P j
    go (holds e) = subst P (sym e) p
    go (fails f) = below j (omega arith)
