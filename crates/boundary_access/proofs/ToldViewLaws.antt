-- A read or a write on the view that numbers tell keeps the contract of the exported function over those numbers.
-- Assumes nothing.
use Prim.Native.Nat.{ℕ}
use mathlib.Core.{Path.{◌≡◌, sym, ap, subst, ◌∙◌}, List.List}
use lib.ListN.{length}
use Rattle.view.specs.Outcomes.{view_read, view_write, view_filled, view_written, ReadPost, WritePost}
use Rattle.view.specs.declared.{Outcome.Outcome, View.View}
use Rattle.boundary_numbers.specs.BoundaryNumbers.{view_from}
use Rattle.boundary_answers.specs.BoundaryAnswers.{view_left, Tells}
use Rattle.boundary_access.specs.BoundaryAccess.{ReadCall, WriteCall}
use Rattle.std.specs.Prelude.{⊤}
use Rattle.answers.specs.Answers.{Answer}

module _ (numbers image : List ℕ) (first count : ℕ) (buffer : List ℕ) (view : View) (same : view ≡ view_from numbers) (outcome : Outcome View ⊤)
    (before sector : List ℕ) (number : ℕ) (told : Tells outcome.answer before number sector) where
  -- what is said of the answer that was given is said of the one that the numbers' view gives
  told_of : (answer : View → Answer ⊤) → outcome.answer ≡ answer view → Tells (answer (view_from numbers)) before number sector
  told_of answer e = subst (λ (a : Answer ⊤). Tells a before number sector) (e ∙ ap answer same) told

  pub read_call : (filled : List ℕ) → ReadPost view image first count buffer outcome filled
      → ReadCall numbers image first count buffer before number filled sector
  read_call filled post =
      record {
        tells = told_of (λ (v : View). view_read v (length image) first count (length buffer)) post.answers;
        fills = post.fills ∙ ap (λ (v : View). view_filled v image first count buffer) same;
      }

  pub write_call : (written left : List ℕ) (returned : ℕ) → returned ≡ number → WritePost view image first count buffer outcome written
      → left ≡ view_left number numbers → WriteCall numbers image first count buffer before returned written left sector
  write_call written left returned back post locks =
      let says = told_of (λ (v : View). view_write v (length image) first count (length buffer)) post.answers in
      record {
        tells = record { returns = back ∙ says.returns; names = says.names };
        writes = post.writes ∙ ap (λ (v : View). view_written v image first count buffer) same;
        locks = locks ∙ ap (λ (n : ℕ). view_left n numbers) (sym back);
      }
