-- A call that returns an answer's refusal number and stores what the answer holds does so for what the answer is.
-- Assumes nothing.
use Prim.Native.Nat.{ℕ}
use mathlib.Core.{Path.{◌≡◌, ap, ◌∙◌}, List.List}

-- how an answer's refusal number is returned, and what is left of what was there
module _ {R : Type 0} (refusal : R → ℕ) (left : R → List ℕ → List ℕ) {answer : R} {number : ℕ} {stored before : List ℕ} where
  pub given : {told : R} → answer ≡ told → (number ≡ refusal answer) × (stored ≡ left answer before)
      → (number ≡ refusal told) × (stored ≡ left told before)
  given e call = (call.0 ∙ ap refusal e, call.1 ∙ ap (λ (a : R). left a before) e)

  -- the answer for what numbers tell
  pub given_for : {T : Type 0} (answers : T → R) {value told : T} → answer ≡ answers value → value ≡ told
      → (number ≡ refusal answer) × (stored ≡ left answer before)
      → (number ≡ refusal (answers told)) × (stored ≡ left (answers told) before)
  given_for answers e t call = given (e ∙ ap answers t) call
