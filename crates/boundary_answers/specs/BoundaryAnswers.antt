-- What an answer leaves in the numbers passed for it (RULES.md, Boundary): what the contracts of `boundary_answers` and of the exported
-- functions cite. Assumes nothing.
use Rattle.std.specs.Prelude.{ℕ, Ok, Err, Some, None, Option, ⊤}
use mathlib.Core.{Path.◌≡◌, Bool.cond, List.{List, [], ◌∷◌}}
use lib.{Dec.eqb, ListN.set}
use Rattle.answers.specs.Answers.{answer_sector, Answer, refusal_number}
use Rattle.boundary_numbers.specs.BoundaryNumbers.{lock_index}

-- what a call leaves of the number passed for one that was asked for: that number, or on a refusal what was there
unfoldable pub numbered_left : Answer ℕ → List ℕ → List ℕ
numbered_left (Ok number) before = number ∷ []
numbered_left (Err refusal) before = before

-- what a write leaves of a view's numbers: 18 closes the lock, and nothing else changes them
unfoldable pub view_left : ℕ → List ℕ → List ℕ
view_left number before = cond (eqb number 18) (set before lock_index 1) before

-- what a call leaves of the number passed for a sector: the one that its answer names, or what was there
unfoldable pub sector_left : Option ℕ → List ℕ → List ℕ
sector_left None before = before
sector_left (Some sector) before = sector ∷ []

-- what a call says of its answer: the number that it returns, and the sector in the way
pub record Tells (answer : Answer ⊤) (before : List ℕ) (number : ℕ) (sector : List ℕ) : Type 0 where
  pub returns : number ≡ refusal_number answer
  pub names : sector ≡ sector_left (answer_sector answer) before
