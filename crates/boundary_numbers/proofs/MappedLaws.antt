-- What is given of an answer whose value was turned into numbers. Assumes nothing.
use Prim.Native.Nat.{ℕ}
use mathlib.Core.{Path.{◌≡◌, refl, ap}, List.List}
use Rattle.std.specs.Prelude.{Ok, Err, MatchResult, IsOkAnd}
use Rattle.answers.specs.Answers.{Answer, refusal_number}
use Rattle.boundary_numbers.specs.BoundaryNumbers.{given_or}

-- the answer in numbers
abbrev pub IsMapped : {A : Type 0} → (A → List ℕ) → Answer A → Answer (List ℕ) → Type 0
IsMapped numbers answer mapped = MatchResult answer (λ value. IsOkAnd mapped (λ told. told ≡ numbers value)) (λ refusal. mapped ≡ Err refusal)

module _ {A : Type 0} (numbers : A → List ℕ) where
  -- it has the answer's refusal number
  pub mapped_refusal : (answer : Answer A) (mapped : Answer (List ℕ)) → IsMapped numbers answer mapped → refusal_number mapped ≡ refusal_number answer
  unfolding refusal_number
  mapped_refusal (Ok value) (Ok told) e = refl
  mapped_refusal (Ok value) (Err refusal) e = absurd e
  mapped_refusal (Err refusal) mapped e = ap refusal_number e

  -- and gives the numbers of what the answer holds
  pub mapped_given : (left : Answer A → List ℕ → List ℕ) (before : List ℕ) → ((value : A) → left (Ok value) before ≡ numbers value)
      → ((refusal : _) → left (Err refusal) before ≡ before) → (answer : Answer A) (mapped : Answer (List ℕ)) → IsMapped numbers answer mapped
      → given_or mapped before ≡ left answer before
  unfolding given_or
  mapped_given left before accepts refuses (Ok value) (Ok told) e = rw (e, accepts value) refl
  mapped_given left before accepts refuses (Ok value) (Err refusal) e = absurd e
  mapped_given left before accepts refuses (Err refusal) mapped e = rw (e, refuses refusal) refl
