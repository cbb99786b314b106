-- A read or write of `access` with a view's parts leaves what a read or write on the view does.
-- Assumes nothing.
use Prim.Native.Nat.{ℕ}
use mathlib.Core.{Path.{◌≡◌, refl, ap, ◌∙◌}, Bool.Bool, List.List}
use lib.ListN.{length}
use Rattle.answers.specs.Answers.{locked_after, Answer, refusal_number}
use Rattle.access.specs.Moving.{filled_by, written_by}
use Rattle.view.specs.{Outcomes.{view_read, view_write, after, ReadPost, WritePost}, declared.View.View}
use Rattle.std.specs.Prelude.{⊤}

module _ (view : View) (image : List ℕ) (first count : ℕ) (buffer : List ℕ) (answer : Answer ⊤) where
  pub read_post : (filled : List ℕ) → answer ≡ view_read view (length image) first count (length buffer)
      → filled ≡ filled_by answer view.layout image first count buffer
      → ReadPost view image first count buffer (record { view = view; answer = answer }) filled
  read_post filled judged fills =
      record { same = refl; answers = judged; fills = fills ∙ ap (λ (a : Answer ⊤). filled_by a view.layout image first count buffer) judged }

  pub write_post : (locked : Bool) (written : List ℕ) → answer ≡ view_write view (length image) first count (length buffer)
      → written ≡ written_by answer view.layout image first buffer → locked ≡ locked_after view.locked (refusal_number answer)
      → WritePost view image first count buffer
      (record { view = record { layout = view.layout; protection = view.protection; locked = locked }; answer = answer }) written
  unfolding after
  write_post locked written judged writes locks =
      record {
        back = rw (locks, judged);
        answers = judged;
        writes = writes ∙ ap (λ (a : Answer ⊤). written_by a view.layout image first buffer) judged;
      }
