-- Where a read or a write on the view that numbers tell finds its bytes keeps the contract of the exported function over those numbers.
-- Assumes nothing.
use Prim.Native.Nat.{ℕ}
use mathlib.Core.{Path.{◌≡◌, sym, ap, ◌∙◌}, List.List}
use Rattle.judgement.specs.Offsets.{placed_by}
use Rattle.judgement.proofs.PlacementLaws.{placed_number, placed_sector}
use Rattle.view.specs.Outcomes.{read_placed, write_placed}
use Rattle.view.specs.declared.View.{View}
use Rattle.boundary_numbers.specs.BoundaryNumbers.{view_from}
use Rattle.boundary_answers.specs.BoundaryAnswers.{view_left, sector_left, Tells}
use Rattle.boundary_extents.specs.BoundaryExtents.{offset_left, ReadExtentCall, WriteExtentCall}
use Rattle.std.specs.Prelude.{Option, ⊤}
use Rattle.answers.specs.Answers.{Answer, refusal_number, answer_sector}
use Rattle.view.specs.declared.Outcome.{Outcome}

module _ (numbers : List ℕ) (image_size first count buffer_size : ℕ) (view : View) (same : view ≡ view_from numbers) (placed : Outcome View ℕ)
    (before other : List ℕ) (number : ℕ) (offset sector : List ℕ)
    (given : (number ≡ refusal_number placed.answer)
    × ((offset ≡ offset_left placed.answer before) × (sector ≡ sector_left (answer_sector placed.answer) other))) where
  -- what is given of a placement by an answer says of that answer what its call does
  told_placed : (answer : Answer ⊤) → placed.answer ≡ placed_by answer (view_from numbers).layout first → Tells answer other number sector
  told_placed answer e =
      let layout = (view_from numbers).layout in
      record {
        returns = given.0 ∙ ap refusal_number e ∙ placed_number layout first answer;
        names = given.1.1 ∙ ap (λ (n : Option ℕ). sector_left n other) (ap answer_sector e ∙ placed_sector layout first answer);
      }

  pub read_extent_call : placed ≡ read_placed view image_size first count buffer_size
      → ReadExtentCall numbers image_size first count buffer_size before other number offset sector
  unfolding read_placed
  read_extent_call says =
      let place = ap (λ (p : Outcome View ℕ). p.answer) (says ∙ ap (λ (v : View). read_placed v image_size first count buffer_size) same) in
      record { tells = told_placed _ place; places = given.1.0 ∙ ap (λ (p : Answer ℕ). offset_left p before) place }

  pub write_extent_call : placed ≡ write_placed view image_size first count buffer_size → (left : List ℕ) (returned : ℕ) → returned ≡ number
      → left ≡ view_left number numbers → WriteExtentCall numbers image_size first count buffer_size before other returned offset left sector
  unfolding write_placed
  write_extent_call says left returned back locks =
      let place = ap (λ (p : Outcome View ℕ). p.answer) (says ∙ ap (λ (v : View). write_placed v image_size first count buffer_size) same) in
      let told = told_placed _ place in
      record {
        tells = record { returns = back ∙ told.returns; names = told.names };
        places = given.1.0 ∙ ap (λ (p : Answer ℕ). offset_left p before) place;
        locks = locks ∙ ap (λ (n : ℕ). view_left n numbers) (sym back);
      }
