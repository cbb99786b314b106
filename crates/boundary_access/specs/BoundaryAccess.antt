-- Reads and writes on a view's numbers (RULES.md, Boundary): what the contracts of `boundary_access` cite. Assumes nothing.
use Rattle.std.specs.Prelude.{ℕ, length}
use mathlib.Core.{Path.◌≡◌, List.List}
use Rattle.view.specs.Outcomes.{view_read, view_write, view_filled, view_written}
use Rattle.boundary_numbers.specs.BoundaryNumbers.{view_from}
use Rattle.boundary_answers.specs.BoundaryAnswers.{view_left, Tells}

-- what a read leaves, for a view's numbers: what it says of its answer, and the buffer
pub record ReadCall (view image : List ℕ) (first count : ℕ) (buffer sector_before : List ℕ) (number : ℕ) (filled sector : List ℕ) : Type 0 where
  pub tells : Tells (view_read (view_from view) (length image) first count (length buffer)) sector_before number sector
  pub fills : filled ≡ view_filled (view_from view) image first count buffer

-- what a write leaves: what it says of its answer, the image, and the view's numbers
pub record WriteCall (view image : List ℕ) (first count : ℕ) (buffer sector_before : List ℕ) (number : ℕ) (written left sector : List ℕ) : Type 0 where
  pub tells : Tells (view_write (view_from view) (length image) first count (length buffer)) sector_before number sector
  pub writes : written ≡ view_written (view_from view) image first count buffer
  pub locks : left ≡ view_left number view
