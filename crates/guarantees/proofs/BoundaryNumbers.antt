-- Layouts and views through their numbers and back, and a view's numbers with its lock closed.
-- Assumes nothing.
use Prim.Native.Nat.{ℕ, suc, ◌<◌}
use native.Mathlib.Omega.{arith}
use mathlib.Core.{Path.{◌≡◌, refl, sym, ap, ◌∙◌}, Bool.{Bool, true, false, cond}, List.{List, [], ◌∷◌, ◌++◌}}
use lib.{Dec.{ltb, eqb}, ListN.{length, get_or, set, take, drop}, Seq.{get_or-set_same, get_or-set_other, set_split, drop-length}}
use borrow.Author.Tests.{ltb-true}
use Rattle.answers.specs.Answers.{locked_after, Answer, refusal_number}
use Rattle.layout.specs.declared.Layout.{Layout}
use Rattle.view.specs.{declared.View.View, Outcomes.after}
use Rattle.boundary_numbers.specs.BoundaryNumbers.{lock_index, layout_numbers, layout_from, protection_numbers, protection_from, view_numbers, view_from}
use Rattle.boundary_answers.specs.BoundaryAnswers.{view_left}
use Rattle.std.specs.Prelude.{⊤, Some, None}
use Rattle.protection.specs.Protection.{Protection}

-- a view of its three parts
abbrev view_with : Layout → Protection → Bool → View
view_with layout protection locked = record { layout = layout; protection = protection; locked = locked }

view_with_of_numbers : (layout : Layout) (protection : Protection) (locked : Bool)
    → view_from (view_numbers (view_with layout protection locked)) ≡ view_with layout protection locked
unfolding view_from view_numbers layout_from layout_numbers protection_from protection_numbers
view_with_of_numbers layout None true = refl
view_with_of_numbers layout None false = refl
view_with_of_numbers layout (Some (first, end)) true = refl
view_with_of_numbers layout (Some (first, end)) false = refl

pub view_of_numbers : (view : View) → view_from (view_numbers view) ≡ view
view_of_numbers view = view_with_of_numbers view.layout view.protection view.locked

-- a store leaves what stands before it
get_d_set_before : (l : List ℕ) (i j v d : ℕ) → ltb j i ≡ true → get_or (set l i v) j d ≡ get_or l j d
get_d_set_before l i j v d e = get_or-set_other l i j v d (λ same. omega (arith, ltb-true j i e))

module _ (numbers : List ℕ) (h : lock_index < length numbers) where
  -- with 1 for the last of a view's numbers they tell the same view, its lock closed
  view_of_set : view_from (set numbers lock_index 1) ≡ view_with (view_from numbers).layout (view_from numbers).protection true
  unfolding view_from layout_from
  view_of_set = simp (get_d_set_before numbers lock_index, get_or-set_same numbers lock_index 1 0 h)

  -- .. and where nothing is stored, its lock as it was
  view_of_cond_set : (closes : Bool) → view_from (cond closes (set numbers lock_index 1) numbers)
      ≡ view_with (view_from numbers).layout (view_from numbers).protection (cond closes true (view_from numbers).locked)
  view_of_cond_set true = view_of_set
  view_of_cond_set false = refl

-- the numbers that a write leaves tell the view that it hands back
pub view_of_left : (answer : Answer ⊤) (numbers : List ℕ) → length numbers ≡ 13
    → view_from (view_left (refusal_number answer) numbers) ≡ after (view_from numbers) answer
unfolding view_left after locked_after
view_of_left answer numbers h = view_of_cond_set numbers (omega arith) (eqb (refusal_number answer) 18)

-- a list with another last number
pub set_last : (l : List ℕ) (n v : ℕ) → length l ≡ suc n → set l n v ≡ take n l ++ (v ∷ [])
set_last l n v h = set_split l n v (omega arith) ∙ ap (λ (rest : List ℕ). take n l ++ v ∷ rest) (ap (λ (k : ℕ). drop k l) (sym h) ∙ drop-length l)
