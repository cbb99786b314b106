-- Where reads and writes on a view's numbers find their bytes (RULES.md, Boundary): what the contracts of `boundary_extents` cite.
-- Assumes nothing.
use Rattle.std.specs.Prelude.{ℕ, Ok, Err}
use mathlib.Core.{Path.◌≡◌, List.{List, [], ◌∷◌}}
use Rattle.judgement.specs.Offsets.{placed_by}
use Rattle.view.specs.Outcomes.{view_read, view_write}
use Rattle.boundary_numbers.specs.BoundaryNumbers.{view_from}
use Rattle.boundary_answers.specs.BoundaryAnswers.{view_left, Tells}
use Rattle.answers.specs.Answers.{Answer}

-- what a call leaves of the number passed for an offset: the offset, or what was there
unfoldable pub offset_left : Answer ℕ → List ℕ → List ℕ
offset_left (Ok offset) before = offset ∷ []
offset_left (Err refusal) before = before

-- what the extent of a read leaves: what the read says of its answer, and the extent's first byte
pub record ReadExtentCall (view : List ℕ) (image_size first count buffer_size : ℕ) (offset_before sector_before : List ℕ) (number : ℕ) (offset sector : List ℕ) : Type 0 where
  pub tells : Tells (view_read (view_from view) image_size first count buffer_size) sector_before number sector
  pub places : offset ≡ offset_left (placed_by (view_read (view_from view) image_size first count buffer_size) (view_from view).layout first) offset_before

-- what the extent of a write leaves: what the write says of its answer, the extent's first byte, and the view's numbers as the write does
pub record WriteExtentCall (view : List ℕ) (image_size first count buffer_size : ℕ) (offset_before sector_before : List ℕ) (number : ℕ) (offset left sector : List ℕ) : Type 0 where
  pub tells : Tells (view_write (view_from view) image_size first count buffer_size) sector_before number sector
  pub places : offset ≡ offset_left (placed_by (view_write (view_from view) image_size first count buffer_size) (view_from view).layout first) offset_before
  pub locks : left ≡ view_left number view
