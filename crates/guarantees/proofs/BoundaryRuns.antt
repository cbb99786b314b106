-- Calls over numbers are runs on the views that the numbers tell. Assumes nothing.
use Prim.Native.Nat.{ℕ}
use mathlib.Core.{Path.{◌≡◌, refl, ap, ◌∙◌}, Bool.{false, cond}, List.{List, [], ◌∷◌, ◌++◌}}
use lib.ListN.{length}
use Rattle.layout.specs.declared.Layout.{Layout}
use Rattle.view.specs.declared.View.{View}
use Rattle.boundary_numbers.specs.BoundaryNumbers.{viewed_left}
use Rattle.model.specs.{Model.{State, state_with, Reply}, Sides.{Side, outer, hidden, at, each_with, OnSide}}
use Rattle.model.proofs.RunLaws.{run_exists, run_carries}
use Rattle.model.proofs.SideLaws.{on_side_exists, on_side_carries}
use Rattle.guarantees.specs.Boundary.{stored_layout, stored_protection}
use Rattle.guarantees.specs.BoundaryRuns.{KeyedNumbers, Numbers, Thirteen, keyed_from, told, Said, reply_told, stored_for, NumberStep, CarriesRuns, BeginsRuns}
use Rattle.guarantees.specs.{Interleaving.{side_view, side_key, side_keyed}, Steps.Step}
use Rattle.access_claims.specs.{Table.Call, Views.{plain, protecting}}
use Rattle.guarantees.proofs.Boundary.{stores_answers}
use Rattle.guarantees.proofs.NumberSteps.{step_is, answered}
use Rattle.access_claims.proofs.Views.{makes_views}
use Rattle.std.specs.Prelude.{Ok, Some, None}
use Rattle.protection.specs.Protection.{Protection}

step_exists : (state : State KeyedNumbers) (call : Call) → (given : Reply Said) × (after : State KeyedNumbers) × NumberStep state call given after
step_exists state call = let one = answered state call (0 ∷ []) in (one.0, one.1, (0 ∷ [], one.2))

pub carries_runs : (numbers : Numbers) → CarriesRuns numbers
carries_runs numbers =
    record {
      answered = answered;
      runs = run_exists (OnSide NumberStep) (on_side_exists NumberStep step_exists) numbers;
      is_run = λ thirteen turns answers last run.
          run_carries (OnSide NumberStep) (OnSide Step) told reply_told Thirteen
          (λ state after turn given holds one.
          on_side_carries NumberStep Step keyed_from reply_told (λ (held : KeyedNumbers). length held.numbers ≡ 13)
          (λ s a call g h kept. step_is s a call.form call.operation call.first call.count call.buffer kept.0 g h kept.1) state after turn
          given holds one)
          thirteen run;
    }

-- the numbers stored for a view that is made
stored_thirteen : (view : View) (before : List ℕ) → length (viewed_left (Ok view) before) ≡ 13
stored_thirteen view before = ap length ((stores_answers before).view view) ∙ go view.protection
  where
    go : (protection : Protection) → length (stored_layout view.layout ++ stored_protection protection ++ cond view.locked 1 0 ∷ []) ≡ 13
    go None = refl
    go (Some (first, end)) = refl

module _ (outer_layout hidden_layout : Layout) (outer_key hidden_key before other : List ℕ) where
  both_thirteen : (side : Side) → length (at {A = KeyedNumbers} side (record {
    outer_one = record { numbers = viewed_left (Ok (protecting outer_layout hidden_layout false)) before; key = outer_key };
    hidden_one = record { numbers = viewed_left (Ok (plain hidden_layout false)) other; key = hidden_key };
  })).numbers ≡ 13
  unfolding at
  both_thirteen outer = stored_thirteen (protecting outer_layout hidden_layout false) before
  both_thirteen hidden = stored_thirteen (plain hidden_layout false) other

pub begins_runs : (outer_layout hidden_layout : Layout) (outer_key hidden_key : List ℕ) → BeginsRuns outer_layout hidden_layout outer_key hidden_key
unfolding stored_for state_with each_with side_view side_key side_keyed keyed_from
begins_runs outer_layout hidden_layout outer_key hidden_key =
    let made = makes_views outer_layout hidden_layout in
    let alone = makes_views hidden_layout hidden_layout in
    record {
      start = λ s t n before other image.
          rw (made.guarded_made s t n, alone.plain_made t) λ i.
          record {
            image = image;
            held =
                record {
                  outer_one = record { view = (stores_answers before).view_back (protecting outer_layout hidden_layout false) i; key = outer_key };
                  hidden_one = record { view = (stores_answers other).view_back (plain hidden_layout false) i; key = hidden_key };
                };
          };
      thirteen = λ s t n before other image.
          rw (made.guarded_made s t n, alone.plain_made t) (both_thirteen outer_layout hidden_layout outer_key hidden_key before other);
    }
