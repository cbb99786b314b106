-- Demand 3: steps on the two views are the reference model's, by lawful rules that keep apart, and so the model's laws hold of every run.
-- Assumes nothing.
use Prim.Native.Nat.{ℕ}
use mathlib.Core.{Path.{◌≡◌, sym, ap, subst, ◌∙◌}, Bool.Bool, List.List}
use Rattle.layout.specs.declared.Layout.{Layout}
use Rattle.answers.specs.Answers.{is_accepted, Answer}
use Rattle.plaintext.specs.declared.KeyedView.{KeyedView}
use Rattle.model.specs.{Model.{Rules, State, state_with, Reply}, Sides.{Side, outer, hidden, Both, at, each_with, OnSide, sided}}
use Rattle.model.proofs.Independence.{run_independent}
use Rattle.model.proofs.Lawful.{sided_lawful}
use Rattle.model.proofs.RunLaws.{Models, run_exists, run_agrees, run_last_write, run_reads_left}
use Rattle.model.proofs.SideLaws.{at_each, sided_models, on_side_exists}
use Rattle.guarantees.specs.Interleaving.{side_layout, side_protection, side_view, side_key, side_keyed, side_rules, both_rules, Interleaved, Demand3}
use Rattle.access_claims.specs.{InTheWay.{NamesFirst, NamesSectors}, ReferenceModel.{is_write, in_range, view_rules}}
use Rattle.guarantees.specs.Steps.{KeepsContract, Step}
use Rattle.access_claims.specs.{Table.{Operation, reads, writes, Form, raw, plaintext, Call}, Views.area}
use Rattle.access_claims.proofs.InTheWay.{names_sectors}
use Rattle.access_claims.proofs.NestLaws.{Nest, plain_sound_lem, protecting_sound}
use Rattle.guarantees.proofs.ViewRulesLaws.{sides_lawful, sides_apart}
use Rattle.guarantees.proofs.StepLaws.{view_models, step_exists}
use Rattle.std.specs.Prelude.{⊤, None}

-- a call that keeps its contract names what its view says
step_names : (state after : State KeyedView) (given : Reply (Answer ⊤)) (call : Call) → Step state call given after
    → NamesFirst state.held.view.layout state.held.view.protection call.first given.answer
unfolding KeepsContract
step_names state after given call kept =
    go call.form call.operation (names_sectors state.held.view state.image call.first call.count call.buffer) kept
  where
    says : (answer : Answer ⊤) → given.answer ≡ answer → NamesFirst state.held.view.layout state.held.view.protection call.first answer
        → NamesFirst state.held.view.layout state.held.view.protection call.first given.answer
    says answer e = subst (NamesFirst state.held.view.layout state.held.view.protection call.first) (sym e)

    go : (form : Form) (operation : Operation) → NamesSectors state.held.view state.image call.first call.count call.buffer
        → KeepsContract form operation state call.first call.count call.buffer given after
        → NamesFirst state.held.view.layout state.held.view.protection call.first given.answer
    go raw reads names k = says _ k.0.answers names.reads
    go raw writes names k = says _ k.0.answers names.writes
    go plaintext reads names k = says _ k.0.answers names.reads
    go plaintext writes names k = says _ k.0.answers names.writes

module _ (outer_layout hidden_layout : Layout) (outer_key hidden_key : List ℕ) (nest : Nest outer_layout hidden_layout) where
  abbrev sides : Side → Rules Call Bool (Answer ⊤)
  sides = side_rules outer_layout hidden_layout outer_key hidden_key

  abbrev keyed : Side → Bool → KeyedView
  keyed = side_keyed outer_layout hidden_layout outer_key hidden_key

  side_models : (side : Side) → Models (sides side) (keyed side) Step
  unfolding side_rules side_layout side_protection side_view side_key side_keyed
  side_models outer = view_models outer_layout (area hidden_layout) outer_key (λ locked. protecting_sound outer_layout hidden_layout locked nest)
  side_models hidden = view_models hidden_layout None hidden_key (λ locked. plain_sound_lem hidden_layout locked nest.hidden_sound)

  -- what a side's call names, by its view
  side_names : (side : Side) (locked : Bool) (first : ℕ) (answer : Answer ⊤)
      → NamesFirst (keyed side locked).view.layout (keyed side locked).view.protection first answer
      → NamesFirst (side_layout outer_layout hidden_layout outer_key hidden_key side) (side_protection outer_layout hidden_layout outer_key hidden_key side) first answer
  unfolding side_keyed side_view side_layout side_protection
  side_names outer locked first answer names = names
  side_names hidden locked first answer names = names

  pub interleaved : (model : State (Both Bool)) (xs ys : List Call) → Interleaved outer_layout hidden_layout outer_key hidden_key model xs ys
  unfolding sided side_rules view_rules is_write is_accepted state_with
  interleaved model xs ys =
      let view = each_with keyed in
      let both = both_rules outer_layout hidden_layout outer_key hidden_key in
      let lawful = sides_lawful outer_layout hidden_layout outer_key hidden_key nest.outer_sound nest.hidden_sound in
      let together = sided_lawful sides lawful in
      let models = sided_models sides keyed Step side_models in
      record {
        runs = λ turns merged. run_exists (OnSide Step) (on_side_exists Step step_exists) (state_with view model) turns;
        agrees = λ turns answers last merged run.
            let same = run_agrees both view (OnSide Step) models model run in
            record {
              same_replies = same.0;
              same_image = ap (λ (state : State (Both KeyedView)). state.image) same.1;
              same_views = ap (λ (state : State (Both KeyedView)). state.held) same.1;
            };
        last_write = λ turns answers last merged run. run_last_write both view (OnSide Step) models together model run;
        reads_left = λ before turn after answers given middle next merged run one is_read accepted.
            run_reads_left both view (OnSide Step) models together model run turn given next one (ap is_write is_read) (ap is_accepted accepted);
        in_the_way = λ before turn after answers given middle next merged run one.
            let same = run_agrees both view (OnSide Step) models model run in
            let held = ap (λ (state : State (Both KeyedView)). at turn.side state.held) same.1 ∙ at_each _ turn.side _ in
            side_names turn.side _ _ _
            (subst (λ (k : KeyedView). NamesFirst k.view.layout k.view.protection turn.call.first given.answer) held
            (step_names _ _ _ turn.call one.keeps));
        independent = λ turns others answers other_answers last other_last merged otherwise run other.
            let same =
            run_independent sides (in_range (area hidden_layout)) lawful
            (sides_apart outer_layout hidden_layout outer_key hidden_key nest.outer_sound nest.hidden_sound) keyed Step side_models model merged
            otherwise run other in
            record { same_end = same.0; hidden_replies = same.1.to_hidden; outer_replies = same.1.to_outer };
      }

pub demand_3 : (outer_layout hidden_layout : Layout) (outer_key hidden_key : List ℕ) → Demand3 outer_layout hidden_layout outer_key hidden_key
demand_3 outer_layout hidden_layout outer_key hidden_key =
    record {
      holds = λ outer_sound hidden_sound nested.
          interleaved outer_layout hidden_layout outer_key hidden_key (record { outer_sound = outer_sound; hidden_sound = hidden_sound; nested = nested });
    }
