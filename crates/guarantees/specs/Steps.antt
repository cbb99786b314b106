-- One call on a view with its key that keeps its contract: the step of a run. It is stated with `ReadPost`, `WritePost`, `PlainReadPost` and
-- `PlainWritePost`, the predicates that the contracts of `View::read` and `write` and of `KeyedView::read` and `write` cite. Assumes nothing.
use Rattle.std.specs.Prelude.{ℕ, ⊤}
use mathlib.Core.{Path.◌≡◌, List.List}
use Rattle.view.specs.Outcomes.{ReadPost, WritePost}
use Rattle.plaintext.specs.{Plaintext.{PlainReadPost, PlainWritePost}, declared.KeyedView.KeyedView}
use Rattle.model.specs.Model.{State, Reply}
use Rattle.access_claims.specs.Table.{Operation, reads, writes, Form, raw, plaintext, Call}
use Rattle.answers.specs.Answers.{Answer}

-- a call that keeps its contract, by its form and what it does: a read leaves the image, a write its buffer; a raw one is of the view
-- alone, and leaves the key
unfoldable pub KeepsContract : Form → Operation → State KeyedView → ℕ → ℕ → List ℕ → Reply (Answer ⊤) → State KeyedView → Type 0
KeepsContract raw reads state first count buffer given after =
    ReadPost state.held.view state.image first count buffer (record { view = after.held.view; answer = given.answer }) given.buffer
    × (after.held.key ≡ state.held.key) × (after.image ≡ state.image)
KeepsContract raw writes state first count buffer given after =
    WritePost state.held.view state.image first count buffer (record { view = after.held.view; answer = given.answer }) after.image
    × (after.held.key ≡ state.held.key) × (given.buffer ≡ buffer)
KeepsContract plaintext reads state first count buffer given after =
    PlainReadPost state.held state.image first count buffer (record { view = after.held; answer = given.answer }) given.buffer
    × (after.image ≡ state.image)
KeepsContract plaintext writes state first count buffer given after =
    PlainWritePost state.held state.image first count buffer (record { view = after.held; answer = given.answer }) after.image
    × (given.buffer ≡ buffer)

abbrev pub Step : State KeyedView → Call → Reply (Answer ⊤) → State KeyedView → Type 0
Step state call given after = KeepsContract call.form call.operation state call.first call.count call.buffer given after
