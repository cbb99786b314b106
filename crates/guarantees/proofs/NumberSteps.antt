-- One exported call on a view's numbers, with its key, is a call on the view that they tell. Assumes nothing.
use Prim.Native.Nat.{ℕ}
use mathlib.Core.{Path.{◌≡◌, refl, ap, ◌∙◌}, List.List}
use lib.ListN.{length}
use Rattle.view.specs.Outcomes.{view_read, view_write, after}
use Rattle.boundary_numbers.specs.BoundaryNumbers.{view_from}
use Rattle.boundary_answers.specs.BoundaryAnswers.{view_left, Tells}
use Rattle.model.specs.Model.{State, state_with, Reply}
use Rattle.guarantees.specs.BoundaryRuns.{KeyedNumbers, keyed_from, Said, answer_said, reply_told, KeepsNumberContract, KeepsNumberCall}
use Rattle.guarantees.specs.Steps.{KeepsContract}
use Rattle.access_claims.specs.Table.{Operation, reads, writes, Form, raw, plaintext, Call}
use Rattle.guarantees.proofs.BoundaryNumbers.{view_of_left}
use Rattle.guarantees.proofs.SaidLaws.{length_left, read_told, write_told, told_back}
use Rattle.std.specs.Prelude.{⊤}
use Rattle.answers.specs.Answers.{Answer, refusal_number}

-- the answers that calls on a view's numbers tell
module _ (state : State KeyedNumbers) (first count : ℕ) (buffer : List ℕ) where
  abbrev reading : Answer ⊤
  reading = view_read (view_from state.held.numbers) (length state.image) first count (length buffer)

  abbrev writing : Answer ⊤
  writing = view_write (view_from state.held.numbers) (length state.image) first count (length buffer)

  read_says : {before sector : List ℕ} {number : ℕ} → Tells reading before number sector
      → answer_said (record { number = number; sector = sector }) ≡ reading
  read_says tells = told_back tells (read_told (view_from state.held.numbers) (length state.image) first count (length buffer))

  write_says : {before sector : List ℕ} {number : ℕ} → Tells writing before number sector
      → answer_said (record { number = number; sector = sector }) ≡ writing
  write_says tells = told_back tells (write_told (view_from state.held.numbers) (length state.image) first count (length buffer))

  -- a write leaves the numbers of the view that it hands back, as many as there were
  write_leaves : {before sector left : List ℕ} {number : ℕ} → Tells writing before number sector → left ≡ view_left number state.held.numbers
      → length state.held.numbers ≡ 13 → (view_from left ≡ after (view_from state.held.numbers) writing) × (length left ≡ 13)
  write_leaves {left = left} tells locks thirteen =
      let numbers = state.held.numbers in
      let e : left ≡ view_left (refusal_number writing) numbers = locks ∙ ap (λ (n : ℕ). view_left n numbers) tells.returns in
      (ap view_from e ∙ view_of_left writing numbers thirteen, ap length e ∙ length_left (refusal_number writing) numbers ∙ thirteen)

-- so each call on the numbers is one on the view that they tell
pub step_is : (state after : State KeyedNumbers) (form : Form) (operation : Operation) (first count : ℕ) (buffer before : List ℕ) (given : Reply Said)
    → length state.held.numbers ≡ 13 → KeepsNumberContract form operation state first count buffer before given after
    → KeepsContract form operation (state_with keyed_from state) first count buffer (reply_told given) (state_with keyed_from after)
    × (length after.held.numbers ≡ 13)
unfolding KeepsNumberContract KeepsContract state_with reply_told keyed_from
step_is state after raw reads first count buffer before given thirteen kept = (
  (
    record {
      same = ap (λ (s : State KeyedNumbers). view_from s.held.numbers) kept.1;
      answers = read_says state first count buffer kept.0.tells;
      fills = kept.0.fills;
    },
    ap (λ (s : State KeyedNumbers). s.held.key) kept.1,
    ap (λ (s : State KeyedNumbers). s.image) kept.1,
  ),
  ap (λ (s : State KeyedNumbers). length s.held.numbers) kept.1 ∙ thirteen,
)
step_is state after raw writes first count buffer before given thirteen kept =
    let left = write_leaves state first count buffer kept.0.tells kept.0.locks thirteen in (
      (
        record { back = left.0; answers = write_says state first count buffer kept.0.tells; writes = kept.0.writes },
        kept.1,
        kept.2,
      ),
      left.1,
    )
step_is state after plaintext reads first count buffer before given thirteen kept = (
  (
    record {
      same = ap (λ (s : State KeyedNumbers). keyed_from s.held) kept.1;
      answers = read_says state first count buffer kept.0.tells;
      fills = kept.0.fills;
    },
    ap (λ (s : State KeyedNumbers). s.image) kept.1,
  ),
  ap (λ (s : State KeyedNumbers). length s.held.numbers) kept.1 ∙ thirteen,
)
step_is state after plaintext writes first count buffer before given thirteen kept =
    let left = write_leaves state first count buffer kept.0.tells kept.0.locks thirteen in (
      (
        record {
          back = λ i. record { view = left.0 i; key = kept.1 i };
          answers = write_says state first count buffer kept.0.tells;
          writes = kept.0.writes;
        },
        kept.2,
      ),
      left.1,
    )

-- and every call has one
pub answered : (state : State KeyedNumbers) (call : Call) (before : List ℕ)
    → (given : Reply Said) × (after : State KeyedNumbers) × KeepsNumberCall state call before given after
unfolding KeepsNumberContract
answered state call before = go call.form call.operation call.first call.count call.buffer
  where
    go : (form : Form) (operation : Operation) (first count : ℕ) (buffer : List ℕ)
        → (given : Reply Said) × (after : State KeyedNumbers) × KeepsNumberContract form operation state first count buffer before given after
    go raw reads first count buffer = (
      record { answer = record { number = _; sector = _ }; buffer = _ },
      state,
      (record { tells = record { returns = refl; names = refl }; fills = refl }, refl),
    )
    go raw writes first count buffer = (
      record { answer = record { number = _; sector = _ }; buffer = buffer },
      record { image = _; held = record { numbers = _; key = _ } },
      (record { tells = record { returns = refl; names = refl }; writes = refl; locks = refl }, refl, refl),
    )
    go plaintext reads first count buffer = (
      record { answer = record { number = _; sector = _ }; buffer = _ },
      state,
      (record { tells = record { returns = refl; names = refl }; fills = refl }, refl),
    )
    go plaintext writes first count buffer = (
      record { answer = record { number = _; sector = _ }; buffer = buffer },
      record { image = _; held = record { numbers = _; key = _ } },
      (record { tells = record { returns = refl; names = refl }; writes = refl; locks = refl }, refl, refl),
    )
