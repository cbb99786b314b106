-- Reads and writes of plaintext on a view's numbers (RULES.md, Boundary): what the contracts of `boundary_plaintext` cite. Assumes nothing.
use Rattle.std.specs.Prelude.{ℕ, length}
use mathlib.Core.{Path.◌≡◌, List.List}
use Rattle.plaintext.specs.Plaintext.{plain_filled_by, plain_written_by}
use Rattle.view.specs.Outcomes.{view_read, view_write}
use Rattle.boundary_numbers.specs.BoundaryNumbers.{view_from}
use Rattle.boundary_answers.specs.BoundaryAnswers.{view_left, Tells}

-- what a read leaves, for a view's numbers and a key: what it says of its answer, and the buffer
pub record PlainReadCall (view key image : List ℕ) (first count : ℕ) (buffer sector_before : List ℕ) (number : ℕ) (filled sector : List ℕ) : Type 0 where
  pub tells : Tells (view_read (view_from view) (length image) first count (length buffer)) sector_before number sector
  pub fills : filled
      ≡ plain_filled_by (view_read (view_from view) (length image) first count (length buffer)) (view_from view).layout key image first count buffer

-- what a write leaves: what it says of its answer, the image, and the view's numbers
pub record PlainWriteCall (view key image : List ℕ) (first count : ℕ) (buffer sector_before : List ℕ) (number : ℕ) (written left sector : List ℕ) : Type 0 where
  pub tells : Tells (view_write (view_from view) (length image) first count (length buffer)) sector_before number sector
  pub writes : written
      ≡ plain_written_by (view_write (view_from view) (length image) first count (length buffer)) (view_from view).layout key image first count buffer
  pub locks : left ≡ view_left number view
