-- Bytes converted piece by piece: one more piece laid behind those that are done. Said of any such conversion; blocks of a unit and units
-- of a run are two. Assumes nothing.
use Prim.Native.Nat.{ℕ, zero, suc, ◌+◌, ◌≤◌}
use native.Mathlib.Omega.{arith}
use mathlib.Core.{Path.{◌≡◌, sym, ap, ap₂, ◌∙◌}, List.{List, [], ◌++◌, append-nil, append_assoc}}
use lib.ListN.{length, take, drop, length-append, length-take}
use lib.Seq.{take_at, take_all, drop-drop}
use Rattle.fields.specs.Bytes.{overlay}

-- what is laid over bytes stands behind those before it
pub take_overlay : (at : ℕ) (content bytes : List ℕ) → at + length content ≤ length bytes
    → take (at + length content) (overlay at content bytes) ≡ take at bytes ++ content
unfolding overlay
take_overlay at content bytes fits =
    let front = take at bytes ++ content in
    let size : length front ≡ at + length content = simp (length-append, length-take) (omega arith) in
    take_at front (drop (at + length content) bytes) (at + length content) size

-- a conversion: n pieces of a size, the first in some state and each later one in the next
module _ {State : Type 0} (size : ℕ) (next : State → State) (piece : State → List ℕ → List ℕ) (pieces : ℕ → State → List ℕ → List ℕ)
    (none : (state : State) (from : List ℕ) → pieces zero state from ≡ [])
    (more : (n : ℕ) (state : State) (from : List ℕ) → pieces (suc n) state from ≡ piece state from ++ pieces n (next state) (drop size from)) where
  -- the pieces that are done, and what those that are left give, are the same after one more
  pub next_piece : (n left at : ℕ) (state : State) (from into content : List ℕ) → left ≡ suc n → length content ≡ size → at + size ≤ length into
      → content ≡ piece state (drop at from)
      → take (at + size) (overlay at content into) ++ pieces n (next state) (drop (at + size) from) ≡ take at into ++ pieces left state (drop at from)
  next_piece n left at state from into content e whole fits is =
      ap₂ (λ (done rest : List ℕ). done ++ pieces n (next state) rest)
      (ap (λ (k : ℕ). take (at + k) (overlay at content into)) (sym whole) ∙ take_overlay at content into (omega arith))
      (sym (drop-drop size at from))
      ∙ append_assoc (take at into) content (pieces n (next state) (drop size (drop at from)))
      ∙ ap (λ (bytes : List ℕ). take at into ++ (bytes ++ pieces n (next state) (drop size (drop at from)))) is
      ∙ ap (λ (bytes : List ℕ). take at into ++ bytes) (sym (more n state (drop at from)) ∙ ap (λ (k : ℕ). pieces k state (drop at from)) (sym e))

  -- none is left
  pub all_done : (at left : ℕ) (state : State) (rest into : List ℕ) → left ≡ 0 → length into ≤ at → into ≡ take at into ++ pieces left state rest
  all_done at left state rest into e whole =
      sym (take_all at into whole)
      ∙ sym (append-nil (take at into))
      ∙ ap (λ (bytes : List ℕ). take at into ++ bytes) (sym (none state rest) ∙ ap (λ (k : ℕ). pieces k state rest) (sym e))
