-- Answers, their refusal numbers and the sectors that they name, the order of checks, and the lock (RULES.md, Refusals): what the contracts of
-- `answers` cite, and every judgement above it. Assumes nothing.
use Rattle.std.specs.Prelude.{ℕ, Bool, true, false, cond, eqb, Option, Some, None, Result, Ok, Err}
use Rattle.answers.specs.declared.Refusal.{Refusal}

-- an answer: what was asked for, or why it is refused
abbrev pub Answer : Type 0 → Type 0
Answer T = Result T Refusal

-- a refusal by a number alone, and by one at the user sector that is in the way
abbrev pub refusal_by : ℕ → Refusal
refusal_by number = record { number = number; sector = None }

abbrev pub refusal_at : ℕ → ℕ → Refusal
refusal_at number sector = record { number = number; sector = Some sector }

-- the same as answers
abbrev pub refuse : {T : Type 0} → ℕ → Answer T
refuse number = Err (refusal_by number)

abbrev pub refuse_at : {T : Type 0} → ℕ → ℕ → Answer T
refuse_at number sector = Err (refusal_at number sector)

-- one check of several in order: what it refuses with where it is not kept, else what the later ones say
abbrev pub line : {A : Type 0} → A → Bool → A → A
line refused kept later = cond kept later refused

-- an answer is an acceptance
unfoldable pub is_accepted : {T : Type 0} → Answer T → Bool
is_accepted (Ok given) = true
is_accepted (Err refusal) = false

-- the refusal number of an answer; 0 for an acceptance is our own convention, here and wherever there is a refusal number
unfoldable pub refusal_number : {T : Type 0} → Answer T → ℕ
refusal_number (Ok given) = 0
refusal_number (Err refusal) = refusal.number

-- the user sector that an answer names: the first in the way
unfoldable pub answer_sector : {T : Type 0} → Answer T → Option ℕ
answer_sector (Ok given) = None
answer_sector (Err refusal) = refusal.sector

-- a lock after a write, by the number that the write is refused by: 18 closes it
unfoldable pub locked_after : Bool → ℕ → Bool
locked_after locked number = cond (eqb number 18) true locked
