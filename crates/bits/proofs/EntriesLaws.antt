-- A table of a function's values: how long it is, what stands at an index, and the table of a list's own entries.
-- Assumes nothing.
use mathlib.Core.{Path.{◌≡◌, refl, sym, ap, ap₂, ◌∙◌}, List.{List, ◌∷◌}}
use Prim.Native.Nat.{ℕ, zero, suc, ◌+◌, ◌≤◌, ◌<◌}
use native.Mathlib.Nat.{zero-add, add-zero, add-suc, suc-add, not-suc-le-zero, le_of_suc-le-suc}
use native.Mathlib.Omega.{arith}
use lib.{ListN.{length, get_or, take, drop}, Seq.drop-cons}
use Rattle.bits.specs.Bits.{entries}

module _ {A : Type 0} (f : ℕ → A) where
  pub length-entries : (n k : ℕ) → length (entries f n k) ≡ n
  unfolding entries
  length-entries zero k = refl
  length-entries (suc n) k = ap suc (length-entries n (suc k))

  pub entries_at : (d : A) (n k i : ℕ) → i < n → get_or (entries f n k) i d ≡ f (k + i)
  unfolding entries
  entries_at d zero k i h = absurd (not-suc-le-zero h)
  entries_at d (suc n) k zero h = ap f (sym (add-zero k))
  entries_at d (suc n) k (suc i) h =
      entries_at d n (suc k) i (le_of_suc-le-suc h) ∙ ap f (suc-add k i ∙ sym (add-suc k i))

  pub entries_from_0 : (d : A) (n i : ℕ) → i < n → get_or (entries f n 0) i d ≡ f i
  entries_from_0 d n i h = entries_at d n 0 i h ∙ ap f (zero-add i)

  -- what holds of every value, and of what is read past the end
  pub entries_every : (P : A → Type 0) (d : A) → P d → ((k : ℕ) → P (f k)) → (n k i : ℕ) → P (get_or (entries f n k) i d)
  unfolding entries
  entries_every P d past every zero k i = past
  entries_every P d past every (suc n) k zero = every k
  entries_every P d past every (suc n) k (suc i) = entries_every P d past every n (suc k) i

-- of two functions with the same values
pub entries_same : {A : Type 0} (f g : ℕ → A) (n k : ℕ) → ((i : ℕ) → i < k + n → f i ≡ g i) → entries f n k ≡ entries g n k
unfolding entries
entries_same f g zero k same = refl
entries_same f g (suc n) k same =
    ap₂ ◌∷◌ (same k (omega arith)) (entries_same f g n (suc k) (λ (i : ℕ) h. same i (omega (arith, h))))

pub entries_get_d : {A : Type 0} (list : List A) (d : A) (n k : ℕ) → k + n ≤ length list → entries (λ i. get_or list i d) n k ≡ take n (drop k list)
unfolding entries
entries_get_d list d zero k h = refl
entries_get_d {A = A} list d (suc n) k h =
    ap {B = List A} (λ rest. get_or list k d ∷ rest) (entries_get_d list d n (suc k) (omega arith))
    ∙ ap (take (suc n)) (sym (drop-cons list k d (omega arith)))
