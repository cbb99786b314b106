-- One call on a sound view with its key that keeps its contract gives the model's reply and next state, and from every state every call has
-- such a step. Assumes nothing.
use Prim.Native.Nat.{ℕ}
use mathlib.Core.{Path.{◌≡◌, refl, sym, ap, ◌∙◌}, Bool.Bool, List.List}
use lib.ListN.{length}
use Rattle.layout.specs.declared.Layout.{Layout}
use Rattle.view.specs.declared.View.{View}
use Rattle.plaintext.specs.declared.KeyedView.{KeyedView}
use Rattle.model.specs.Model.{Rules, State, state_with, Reply, judged, buffer_after, image_after, reply, next}
use Rattle.model.proofs.RunLaws.{Agrees, Models}
use Rattle.access_claims.specs.ReferenceModel.{is_write, first_protected, lock_left, view_rules}
use Rattle.guarantees.specs.Steps.{KeepsContract, Step}
use Rattle.access_claims.specs.{Table.{Operation, reads, writes, Form, raw, plaintext, Call}, Views.SoundView}
use Rattle.access_claims.proofs.Access.{accesses_by_table}
use Rattle.access_claims.proofs.Plaintext.{plaintext_by_table}
use Rattle.access_claims.proofs.TableLaws.{read_lock}
use Rattle.std.specs.Prelude.{⊤}
use Rattle.answers.specs.Answers.{Answer}
use Rattle.protection.specs.Protection.{Protection}

module _ (layout : Layout) (protection : Protection) (key : List ℕ) where
  abbrev pub view_with : Bool → View
  view_with locked = record { layout = layout; protection = protection; locked = locked }

  abbrev pub keyed_with : Bool → KeyedView
  keyed_with locked = record { view = view_with locked; key = key }

  abbrev rules : Rules Call Bool (Answer ⊤)
  rules = view_rules layout protection key

  -- a call in a form from a model's state, its answer in the table, and what it hands back
  module _ (form : Form) (first count : ℕ) (buffer : List ℕ) (model : State Bool) (given : Reply (Answer ⊤)) (after : State KeyedView) where
    abbrev one : Operation → Call
    one operation = record { form = form; operation = operation; first = first; count = count; buffer = buffer }

    read_agrees : (answer : Answer ⊤) → answer ≡ judged rules (one reads) model → given.answer ≡ answer → after.held ≡ keyed_with model.held
        → given.buffer ≡ buffer_after rules (one reads) answer model.image → after.image ≡ model.image
        → Agrees rules keyed_with (one reads) model given after
    unfolding reply next judged image_after state_with view_rules is_write
    read_agrees answer tabled told same fills stays =
        let answers = told ∙ tabled in
        let filled = fills ∙ ap (λ (answer : Answer ⊤). buffer_after rules (one reads) answer model.image) tabled in
        let unlocked = read_lock layout form first count buffer model.held (first_protected layout protection first count) (length model.image) in
        let views = same ∙ ap keyed_with (sym unlocked) in
        (λ i. record { answer = answers i; buffer = filled i }, λ i. record { image = stays i; held = views i })

    write_agrees : (answer : Answer ⊤) → answer ≡ judged rules (one writes) model → given.answer ≡ answer
        → after.held ≡ keyed_with (lock_left answer model.held) → after.image ≡ image_after rules (one writes) answer model.image
        → given.buffer ≡ buffer → Agrees rules keyed_with (one writes) model given after
    unfolding reply next judged buffer_after state_with view_rules is_write
    write_agrees answer tabled told back lays stays =
        let answers = told ∙ tabled in
        let written = lays ∙ ap (λ (answer : Answer ⊤). image_after rules (one writes) answer model.image) tabled in
        let views = back ∙ ap (λ (answer : Answer ⊤). keyed_with (lock_left answer model.held)) tabled in
        (λ i. record { answer = answers i; buffer = stays i }, λ i. record { image = written i; held = views i })

  module _ (sound : (locked : Bool) → SoundView (view_with locked)) where
    agrees : (form : Form) (operation : Operation) (first count : ℕ) (buffer : List ℕ) (model : State Bool) (given : Reply (Answer ⊤)) (after : State KeyedView)
        → KeepsContract form operation (state_with keyed_with model) first count buffer given after
        → Agrees rules keyed_with (one form first count buffer model given after operation) model given after
    unfolding KeepsContract state_with judged
    agrees raw reads first count buffer model given after kept =
        let claim = accesses_by_table (view_with model.held) model.image first count buffer in
        let back = claim.read_back _ _ kept.0 in
        read_agrees raw first count buffer model given after _ (claim.read_tabled key (sound model.held)) back.0
        (λ i. record { view = back.1 i; key = kept.1 i }) (back.2 ∙ claim.filled key) kept.2
    agrees raw writes first count buffer model given after kept =
        let claim = accesses_by_table (view_with model.held) model.image first count buffer in
        let back = claim.write_back _ _ kept.0 in
        write_agrees raw first count buffer model given after _ (claim.write_tabled key (sound model.held)) back.0
        (λ i. record { view = back.1 i; key = kept.1 i }) (back.2 ∙ claim.written key) kept.2
    agrees plaintext reads first count buffer model given after kept =
        let claim = plaintext_by_table (keyed_with model.held) model.image first count buffer in
        let back = claim.read_back _ _ kept.0 in
        read_agrees plaintext first count buffer model given after _ (claim.read_tabled (sound model.held)) back.0 back.1
        (back.2 ∙ claim.filled) kept.1
    agrees plaintext writes first count buffer model given after kept =
        let claim = plaintext_by_table (keyed_with model.held) model.image first count buffer in
        let back = claim.write_back _ _ kept.0 in
        write_agrees plaintext first count buffer model given after _ (claim.write_tabled (sound model.held)) back.0 back.1
        (back.2 ∙ claim.written) kept.1

    pub view_models : Models rules keyed_with Step
    view_models call model given after kept =
        agrees call.form call.operation call.first call.count call.buffer model given after kept

pub step_exists : (state : State KeyedView) (call : Call) → (given : Reply (Answer ⊤)) × (after : State KeyedView) × Step state call given after
unfolding KeepsContract
step_exists state call = go call.form call.operation call.first call.count call.buffer
  where
    go : (form : Form) (operation : Operation) (first count : ℕ) (buffer : List ℕ)
        → (given : Reply (Answer ⊤)) × (after : State KeyedView) × KeepsContract form operation state first count buffer given after
    go raw reads first count buffer = (
      record { answer = _; buffer = _ },
      state,
      (record { same = refl; answers = refl; fills = refl }, refl, refl),
    )
    go raw writes first count buffer = (
      record { answer = _; buffer = buffer },
      record { image = _; held = record { view = _; key = _ } },
      (record { back = refl; answers = refl; writes = refl }, refl, refl),
    )
    go plaintext reads first count buffer = (
      record { answer = _; buffer = _ },
      state,
      (record { same = refl; answers = refl; fills = refl }, refl),
    )
    go plaintext writes first count buffer = (
      record { answer = _; buffer = buffer },
      record { image = _; held = _ },
      (record { back = refl; answers = refl; writes = refl }, refl),
    )
