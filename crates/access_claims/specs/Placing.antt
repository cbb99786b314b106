-- Where reads and writes find their bytes (RULES.md, Reads and writes): the extent calls are judged as the read and the write are, and bytes
-- taken from the offset that they give, or stored at it, are what the read gives and the write leaves. `read_placed`, `write_placed`,
-- `ReadExtentCall` and `WriteExtentCall` are the definitions that the contracts of `view` and `ondristela` cite. Assumes nothing.
use Rattle.std.specs.Prelude.{ℕ, ◌+◌, ◌*◌, ◌≤◌, Ok}
use mathlib.Core.{Path.◌≡◌, Logic.◌↔◌, Bool.cond, List.{List, ◌++◌}}
use lib.{Dec.eqb, ListN.{length, get_or, take, drop}}
use Rattle.view.specs.Outcomes.{read_placed, write_placed}
use Rattle.view.specs.declared.View.{View}
use Rattle.boundary_access.specs.BoundaryAccess.{ReadCall, WriteCall}
use Rattle.boundary_extents.specs.BoundaryExtents.{ReadExtentCall, WriteExtentCall}
use Rattle.access_claims.specs.{Access.{read_by, write_by, filled_with, written_with}, ReferenceModel.lock_left}
use Rattle.answers.specs.Answers.{refuse, refuse_at}
use Rattle.view.specs.declared.Outcome.{Outcome}

-- bytes stored in an image from an offset on
abbrev pub stored_at : ℕ → List ℕ → List ℕ → List ℕ
stored_at offset bytes image = take offset image ++ bytes ++ drop (offset + length bytes) image

module _ (view : View) (image : List ℕ) (first count : ℕ) (buffer : List ℕ) where
  -- what the view says of where the read and the write find their bytes
  abbrev pub read_at : Outcome View ℕ
  read_at = read_placed view (length image) first count (length buffer)

  abbrev pub write_at : Outcome View ℕ
  write_at = write_placed view (length image) first count (length buffer)

  -- an offset is the extent's: O and 512 for each user sector before it, and the buffer's bytes end inside the image
  pub record IsPlace (offset : ℕ) : Type 0 where
    pub starts : offset ≡ view.layout.data_start + first * 512
    pub ends : offset + length buffer ≤ length image

  -- the claim for any view
  pub record PlacesExtents : Type 0 where
    -- the same refusals as the read's and the write's, at the same sectors
    pub read_refused : (number : ℕ) → (read_at.answer ≡ refuse number) ↔ (read_by view image first count buffer ≡ refuse number)
    pub read_refused_at : (number sector : ℕ)
        → (read_at.answer ≡ refuse_at number sector) ↔ (read_by view image first count buffer ≡ refuse_at number sector)
    pub write_refused : (number : ℕ) → (write_at.answer ≡ refuse number) ↔ (write_by view image first count buffer ≡ refuse number)
    pub write_refused_at : (number sector : ℕ)
        → (write_at.answer ≡ refuse_at number sector) ↔ (write_by view image first count buffer ≡ refuse_at number sector)
    -- the bytes at the offset are those that the read gives, and that the write leaves
    pub read_taken : (offset : ℕ) → read_at.answer ≡ Ok offset
        → IsPlace offset × (take (length buffer) (drop offset image) ≡ filled_with view image first count buffer)
    pub write_stored : (offset : ℕ) → write_at.answer ≡ Ok offset
        → IsPlace offset × (stored_at offset buffer image ≡ written_with view image first count buffer)
    -- the views handed back are the read's and the write's
    pub read_view : read_at.view ≡ view
    pub write_view : write_at.view
        ≡ record { layout = view.layout; protection = view.protection; locked = lock_left (write_by view image first count buffer) view.locked }

-- what a caller makes of a number and an offset: where the number is 0 it takes the buffer's bytes from there, or stores them, else none
unfoldable pub taken : ℕ → List ℕ → List ℕ → List ℕ → List ℕ
taken number offset image buffer = cond (eqb number 0) (take (length buffer) (drop (get_or offset 0 0) image)) buffer

unfoldable pub stored : ℕ → List ℕ → List ℕ → List ℕ → List ℕ
stored number offset image buffer = cond (eqb number 0) (stored_at (get_or offset 0 0) buffer image) image

-- the claim for the exported calls on any numbers: with the bytes moved by the caller each is a read or a write, so that demand 3 is kept
pub record PlacesNumbers (view image : List ℕ) (first count : ℕ) (buffer offset_before sector_before : List ℕ) : Type 0 where
  pub is_read : (number : ℕ) (offset sector : List ℕ) → ReadExtentCall view (length image) first count (length buffer) offset_before sector_before number offset sector
      → ReadCall view image first count buffer sector_before number (taken number offset image buffer) sector
  pub is_write : (number : ℕ) (offset left sector : List ℕ)
      → WriteExtentCall view (length image) first count (length buffer) offset_before sector_before number offset left sector
      → WriteCall view image first count buffer sector_before number (stored number offset image buffer) left sector
  -- a refusal leaves the offset as it was
  pub read_same : (number : ℕ) (offset sector : List ℕ) → (number ≡ 0 → ⊥)
      → ReadExtentCall view (length image) first count (length buffer) offset_before sector_before number offset sector → offset ≡ offset_before
  pub write_same : (number : ℕ) (offset left sector : List ℕ) → (number ≡ 0 → ⊥)
      → WriteExtentCall view (length image) first count (length buffer) offset_before sector_before number offset left sector → offset ≡ offset_before
