-- What reads and writes on a view hand back and leave: the judgement and the moving of `access`, and the view; and where they find their
-- bytes. What the contracts of `View::read`, `write`, `read_extent` and `write_extent` cite. Assumes nothing.
use Rattle.std.specs.Prelude.{ℕ, length, ⊤}
use mathlib.Core.{Path.◌≡◌, List.List}
use Rattle.answers.specs.Answers.{locked_after, Answer, refusal_number}
use Rattle.judgement.specs.{Judging.{read_answer, write_answer}, Offsets.placed_by}
use Rattle.access.specs.Moving.{filled_by, written_by}
use Rattle.view.specs.declared.Outcome.{Outcome}
use Rattle.view.specs.declared.View.{View}

-- what a read of a view answers, for an image and a buffer of these lengths
abbrev pub view_read : View → ℕ → ℕ → ℕ → ℕ → Answer ⊤
view_read view = read_answer view.layout view.protection

-- what a write answers
abbrev pub view_write : View → ℕ → ℕ → ℕ → ℕ → Answer ⊤
view_write view = write_answer view.layout view.protection view.locked

-- a view after a write: 18 closes its lock, and nothing else changes it
unfoldable pub after : View → Answer ⊤ → View
after view answer = record { layout = view.layout; protection = view.protection; locked = locked_after view.locked (refusal_number answer) }

-- where a read finds its bytes, or the read's refusal, and the same view
unfoldable pub read_placed : View → ℕ → ℕ → ℕ → ℕ → Outcome View ℕ
read_placed view image_size first count buffer_size =
    record { view = view; answer = placed_by (view_read view image_size first count buffer_size) view.layout first }

-- where a write does, and the view as the write leaves it
unfoldable pub write_placed : View → ℕ → ℕ → ℕ → ℕ → Outcome View ℕ
write_placed view image_size first count buffer_size =
    let answer = view_write view image_size first count buffer_size in
    record { view = after view answer; answer = placed_by answer view.layout first }

module _ (view : View) (image : List ℕ) (first count : ℕ) (buffer : List ℕ) where
  -- the buffer after a read
  abbrev pub view_filled : List ℕ
  view_filled = filled_by (view_read view (length image) first count (length buffer)) view.layout image first count buffer

  -- the image after a write
  abbrev pub view_written : List ℕ
  view_written = written_by (view_write view (length image) first count (length buffer)) view.layout image first buffer

  -- what a read leaves: the same view, its answer, and the buffer
  pub record ReadPost (outcome : Outcome View ⊤) (filled : List ℕ) : Type 0 where
    pub same : outcome.view ≡ view
    pub answers : outcome.answer ≡ view_read view (length image) first count (length buffer)
    pub fills : filled ≡ view_filled

  -- what a write leaves: the view, locked by 18, its answer, and the image
  pub record WritePost (outcome : Outcome View ⊤) (written : List ℕ) : Type 0 where
    pub back : outcome.view ≡ after view (view_write view (length image) first count (length buffer))
    pub answers : outcome.answer ≡ view_write view (length image) first count (length buffer)
    pub writes : written ≡ view_written
