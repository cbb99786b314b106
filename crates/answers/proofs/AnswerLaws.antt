-- No refusal is an acceptance, and what a check leaves of an answer.
-- Assumes nothing.
use mathlib.Core.{Path.{◌≡◌, refl, sym, ap, ◌∙◌}, Bool.{Bool, true, false, true≢false}}
use Prim.Native.Nat.{ℕ}
use Rattle.std.specs.Prelude.{Ok, Err, IsErrAnd, ⊤}
use Rattle.std.specs.Result.{result_unwrap_or}
use Rattle.answers.specs.declared.Refusal.{Refusal}
use Rattle.answers.specs.Answers.{Answer, refusal_by, refuse, line, is_accepted}

-- an answer that is no acceptance
pub unaccepted : {A T : Type 0} {answer : Answer T} {given : T} → is_accepted answer ≡ false → answer ≡ Ok given → A
unfolding is_accepted
unaccepted f e = absurd (true≢false (sym (ap is_accepted e) ∙ f))

pub refused_accepted : {A T : Type 0} (refusal : Refusal) {given : T} → Err refusal ≡ Ok given → A
unfolding is_accepted
refused_accepted refusal e = unaccepted {answer = Err refusal} refl e

-- an answer names no sector where it refuses
abbrev pub ByNumber : {T : Type 0} → Answer T → Type 0
ByNumber (Ok given) = ⊤
ByNumber (Err refusal) = refusal ≡ refusal_by refusal.number

-- two acceptances that are one give the same
pub accepted_one : {T : Type 0} (one other : T) → ◌≡◌ {A = Answer T} (Ok one) (Ok other) → one ≡ other
accepted_one one other e = ap (λ (answer : Answer _). result_unwrap_or answer one) e

-- what a `?` hands on is the refusal that it met
pub passed_on : {T : Type 0} (answer : Answer T) {refusal : Refusal} → IsErrAnd answer (λ given. given ≡ refusal) → answer ≡ Err refusal
passed_on (Ok given) h = absurd h
passed_on (Err given) e = ap (λ (r : Refusal). Err r) e

-- a check that has been passed: the answer is another than its refusal
pub line_passed : {A : Type 0} (refused answer : A) (kept : Bool) (later : A) → (refused ≡ answer → ⊥) → line refused kept later ≡ answer
    → (kept ≡ true) × (later ≡ answer)
line_passed refused answer true later f e = (refl, e)
line_passed refused answer false later f e = absurd (f e)

pub line_accepted : {T : Type 0} (number : ℕ) (kept : Bool) (later : Answer T) {given : T} → line (refuse number) kept later ≡ Ok given
    → (kept ≡ true) × (later ≡ Ok given)
line_accepted number kept later {given} e = line_passed (refuse number) (Ok given) kept later (refused_accepted _) e

-- what holds of a check's refusal and of the later answer holds of both in order
pub line_holds : {A : Type 0} (P : A → Type 0) (refused : A) (kept : Bool) (later : A) → P refused → P later → P (line refused kept later)
line_holds P refused true later p q = q
line_holds P refused false later p q = p
