-- The lock after a write. Assumes nothing.
use Prim.Native.Nat.{ℕ}
use mathlib.Core.{Path.{◌≡◌, sym, ap}, Bool.{Bool, true, cond}}
use borrow.Author.Tests.{eq-eqb, ne_eqb}
use Rattle.answers.specs.Answers.{locked_after}

-- 18 closes the lock, and no other number does
pub lock_closed : {number : ℕ} (locked : Bool) → number ≡ 18 → true ≡ locked_after locked number
unfolding locked_after
lock_closed {number = number} locked e = ap (λ (closes : Bool). cond closes true locked) (sym (eq-eqb number 18 e))

pub lock_left_alone : {number : ℕ} (locked : Bool) → (number ≡ 18 → ⊥) → locked ≡ locked_after locked number
unfolding locked_after
lock_left_alone {number = number} locked f = ap (λ (closes : Bool). cond closes true locked) (sym (ne_eqb number 18 f))
