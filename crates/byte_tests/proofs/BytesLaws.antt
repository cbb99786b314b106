-- The tests of bytes: what they decide, and one byte at a time, as a loop over an index goes through them.
-- Assumes nothing.
use Prim.Native.Nat.{ℕ, suc, ◌+◌, ◌≤◌, ◌<◌}
use native.Mathlib.Numerals.{add-one}
use mathlib.Core.{Path.{◌≡◌, refl, sym, ap, ap₂}, Bool.{Bool, true, false, ◌&&◌, and-false, true≢false}, List.{List, [], ◌∷◌}}
use lib.{Dec.eqb, ListN.{length, get_or, drop, replicate, drop_of_length-le}, Seq.drop-cons}
use borrow.Author.{Tests.{eqb-true}}
use Rattle.std.specs.{Bool.{Decides}, List.{All}}
use Rattle.std.proofs.lemmas.Bool.Decides.{Decides-by_and, Decides-eqb}
use Rattle.std.proofs.lemmas.Slice.Eq.{IsBytesEq, compares_Decides}
use Rattle.byte_tests.specs.Tests.{same_bytes, all_zero}

-- ---- every byte is zero

pub all_zero_decides : (xs : List ℕ) → Decides (all_zero xs) (All (λ b. b ≡ 0) xs)
unfolding all_zero
all_zero_decides = Decides-by_and (λ b. eqb b 0) (λ b. b ≡ 0) all_zero (λ b. Decides-eqb b 0) refl (λ _ _. refl)

pub all_zero_replicate : (xs : List ℕ) → all_zero xs ≡ true → xs ≡ replicate (length xs) 0
unfolding all_zero
all_zero_replicate [] h = refl
all_zero_replicate (x ∷ xs) h = go (eqb x 0) refl h (all_zero_replicate xs)
  where
    go : (b : Bool) → eqb x 0 ≡ b → (b && all_zero xs) ≡ true → (all_zero xs ≡ true → xs ≡ replicate (length xs) 0)
        → x ∷ xs ≡ replicate (length (x ∷ xs)) 0
    go true e k rest = ap₂ (λ (y : ℕ) (ys : List ℕ). y ∷ ys) (eqb-true x 0 e) (rest k)
    go false e k rest = absurd (true≢false (sym k))

-- ---- two lists have the same bytes

-- the test goes head by head
heads : IsBytesEq same_bytes
unfolding same_bytes
heads = record { empty = refl; shorter = λ y ys. refl; longer = λ x xs. refl; heads = λ x y xs ys. refl }

pub same_bytes_true : (xs ys : List ℕ) → same_bytes xs ys ≡ true → xs ≡ ys
same_bytes_true xs ys = (compares_Decides same_bytes heads xs ys).0

pub same_bytes_length : (xs ys : List ℕ) → (length xs ≡ length ys → ⊥) → same_bytes xs ys ≡ false
unfolding same_bytes
same_bytes_length [] [] h = absurd (h refl)
same_bytes_length [] (y ∷ ys) h = refl
same_bytes_length (x ∷ xs) [] h = refl
same_bytes_length (x ∷ xs) (y ∷ ys) h = rw (same_bytes_length xs ys (λ e. h (ap suc e))) (and-false (eqb x y))

pub same_bytes_drop : (xs ys : List ℕ) (i : ℕ) → i < length xs → i < length ys
    → same_bytes (drop i xs) (drop i ys) ≡ (eqb (get_or xs i 0) (get_or ys i 0) && same_bytes (drop (i + 1) xs) (drop (i + 1) ys))
unfolding same_bytes
same_bytes_drop xs ys i h k = rw (add-one, drop-cons xs i 0, drop-cons ys i 0)

pub same_bytes_end : (xs ys : List ℕ) (i : ℕ) → length xs ≤ i → length ys ≤ i → same_bytes (drop i xs) (drop i ys) ≡ true
unfolding same_bytes
same_bytes_end xs ys i h k = rw (drop_of_length-le xs h, drop_of_length-le ys k)
