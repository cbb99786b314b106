-- A read or write of plaintext on the view that numbers tell keeps the contract of the exported function over those numbers. Assumes nothing.
use Prim.Native.Nat.{ℕ}
use mathlib.Core.{Path.{◌≡◌, sym, ap, subst, ◌∙◌}, List.List}
use lib.ListN.{length}
use Rattle.plaintext.specs.Plaintext.{plain_filled_by, plain_written_by, PlainReadPost, PlainWritePost}
use Rattle.plaintext.specs.declared.KeyedView.{KeyedView}
use Rattle.view.specs.{Outcomes.{view_read, view_write}, declared.View.View}
use Rattle.boundary_numbers.specs.BoundaryNumbers.{view_from}
use Rattle.boundary_answers.specs.BoundaryAnswers.{view_left, Tells}
use Rattle.boundary_plaintext.specs.BoundaryPlaintext.{PlainReadCall, PlainWriteCall}
use Rattle.std.specs.Prelude.{⊤}
use Rattle.answers.specs.Answers.{Answer}
use Rattle.view.specs.declared.Outcome.{Outcome}

module _ (numbers key image : List ℕ) (first count : ℕ) (buffer : List ℕ) (view : View) (same : view ≡ view_from numbers) (outcome : Outcome KeyedView ⊤)
    (before sector : List ℕ) (number : ℕ) (told : Tells outcome.answer before number sector) where
  abbrev keyed : KeyedView
  keyed = record { view = view; key = key }

  -- what is said of the answer that was given is said of the one that the numbers' view gives
  told_of : (answer : View → Answer ⊤) → outcome.answer ≡ answer view → Tells (answer (view_from numbers)) before number sector
  told_of answer e = subst (λ (a : Answer ⊤). Tells a before number sector) (e ∙ ap answer same) told

  pub plain_read_call : (filled : List ℕ) → PlainReadPost keyed image first count buffer outcome filled
      → PlainReadCall numbers key image first count buffer before number filled sector
  plain_read_call filled post =
      record {
        tells = told_of (λ (v : View). view_read v (length image) first count (length buffer)) post.answers;
        fills =
            post.fills
            ∙ ap (λ (v : View). plain_filled_by (view_read v (length image) first count (length buffer)) v.layout key image first count buffer) same;
      }

  pub plain_write_call : (written left : List ℕ) (returned : ℕ) → returned ≡ number → PlainWritePost keyed image first count buffer outcome written
      → left ≡ view_left number numbers → PlainWriteCall numbers key image first count buffer before returned written left sector
  plain_write_call written left returned back post locks =
      let says = told_of (λ (v : View). view_write v (length image) first count (length buffer)) post.answers in
      record {
        tells = record { returns = back ∙ says.returns; names = says.names };
        writes =
            post.writes
            ∙ ap (λ (v : View). plain_written_by (view_write v (length image) first count (length buffer)) v.layout key image first count buffer) same;
        locks = locks ∙ ap (λ (n : ℕ). view_left n numbers) (sym back);
      }
