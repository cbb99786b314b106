-- Where reads and writes find their bytes, and that a caller which moves them itself reads and writes. Assumes nothing.
use Prim.Native.Nat.{ℕ, ◌*◌}
use native.Mathlib.Omega.{arith}
use mathlib.Core.{Path.{◌≡◌, refl, sym, ap, ◌∙◌}, Bool.{true, false}, List.List}
use lib.{Dec.eqb, ListN.{length, take, drop}}
use Rattle.answers.specs.Answers.{is_accepted, Answer, refuse, refuse_at, refusal_number}
use Rattle.layout.specs.declared.Layout.{Layout}
use Rattle.judgement.specs.Offsets.{extent_start, placed_by}
use Rattle.judgement.proofs.JudgingLaws.{read_passed, write_passed, passed_ends, names_sector, names_some, read_holds, write_holds}
use Rattle.judgement.proofs.PlacementLaws.{placed_accepted, placed_refused, placed_refused, refused_placed, refused_placed}
use Rattle.fields.specs.Bytes.{overlay}
use Rattle.access.specs.Moving.{filled_by, written_by}
use Rattle.access.proofs.MovingLaws.{filled_accepted, written_accepted}
use Rattle.view.specs.{Outcomes.{after, read_placed, write_placed}, declared.View.View}
use Rattle.boundary_numbers.specs.BoundaryNumbers.{view_from}
use Rattle.boundary_extents.specs.BoundaryExtents.{offset_left}
use Rattle.access_claims.specs.Placing.{taken, stored, PlacesExtents, PlacesNumbers}
use Rattle.access_claims.proofs.TableLaws.{lock_left_lem}
use Rattle.std.specs.Prelude.{Ok, ⊤}

pub places_extents : (view : View) (image : List ℕ) (first count : ℕ) (buffer : List ℕ) → PlacesExtents view image first count buffer
unfolding read_placed write_placed after extent_start overlay
places_extents view image first count buffer =
    let layout = view.layout in
    record {
      read_refused = λ number. (placed_refused layout first refl, λ e. sym (refused_placed layout first e));
      read_refused_at = λ number sector. (placed_refused layout first refl, λ e. sym (refused_placed layout first e));
      write_refused = λ number. (placed_refused layout first refl, λ e. sym (refused_placed layout first e));
      write_refused_at = λ number sector. (placed_refused layout first refl, λ e. sym (refused_placed layout first e));
      read_taken = λ offset e.
          let given = placed_accepted layout first refl e in
          let passed = read_passed _ _ _ _ _ _ refl given.0 in (
            record { starts = given.1; ends = omega (arith, given.1, passed_ends _ _ _ _ _ _ passed) },
            filled_accepted _ layout image first buffer count offset given.0 given.1 passed.buffer_whole,
          );
      write_stored = λ offset e.
          let given = placed_accepted layout first refl e in
          let passed = write_passed _ _ _ _ _ _ _ refl given.0 in (
            record { starts = given.1; ends = omega (arith, given.1, passed_ends _ _ _ _ _ _ passed) },
            written_accepted _ layout image first buffer offset given.0 given.1,
          );
      read_view = refl;
      write_view = ap (λ locked. record { layout = layout; protection = view.protection; locked = locked }) (sym (lock_left_lem _ view.locked));
    }

-- what a number and an offset tell of an answer
module _ (layout : Layout) (image : List ℕ) (first : ℕ) (buffer before : List ℕ) where
  -- the offset that an answer leaves
  abbrev leaves : Answer ⊤ → List ℕ
  leaves answer = offset_left (placed_by answer layout first) before

  -- moved by the number and the offset, the bytes are those that the call moves, and a refusal leaves the offset
  record Moves (count : ℕ) (answer : Answer ⊤) : Type 0 where
    takes : (answer ≡ Ok tt → length buffer ≡ count * 512)
        → taken (refusal_number answer) (leaves answer) image buffer ≡ filled_by answer layout image first count buffer
    stores : stored (refusal_number answer) (leaves answer) image buffer ≡ written_by answer layout image first buffer
    same : (refusal_number answer ≡ 0 → ⊥) → leaves answer ≡ before

  moves_accepted : (count : ℕ) → Moves count (Ok tt)
  unfolding taken stored offset_left placed_by filled_by written_by is_accepted refusal_number overlay
  moves_accepted count =
      record {
        takes = λ whole. ap (λ (n : ℕ). take n (drop (extent_start layout first) image)) (whole refl);
        stores = refl;
        same = λ f. absurd (f refl);
      }

  moves_refused : (count number : ℕ) → eqb number 0 ≡ false → names_sector number ≡ false → Moves count (refuse number)
  unfolding taken stored offset_left placed_by filled_by written_by is_accepted refusal_number
  moves_refused count number some other = record { takes = λ whole. rw some; stores = rw some; same = λ f. refl }

  moves_refused_at : (count number sector : ℕ) → names_sector number ≡ true → Moves count (refuse_at number sector)
  unfolding taken stored offset_left placed_by filled_by written_by is_accepted refusal_number
  moves_refused_at count number sector names =
      let some = names_some number names in record { takes = λ whole. rw some; stores = rw some; same = λ f. refl }

pub places_numbers : (view image : List ℕ) (first count : ℕ) (buffer before other : List ℕ) → PlacesNumbers view image first count buffer before other
places_numbers view image first count buffer before other =
    let told = view_from view in
    let layout = told.layout in
    let reads = read_holds (Moves layout image first buffer before count) (moves_accepted layout image first buffer before count)
    (moves_refused layout image first buffer before count) (moves_refused_at layout image first buffer before count) layout told.protection
    (length image) first count (length buffer) in
    let writes = write_holds (Moves layout image first buffer before count) (moves_accepted layout image first buffer before count)
    (moves_refused layout image first buffer before count) (moves_refused_at layout image first buffer before count) layout told.protection
    (length image) first count (length buffer) told.locked in
    record {
      is_read = λ number offset sector call.
          record {
            tells = call.tells;
            fills = rw (call.tells.returns, call.places) (reads.takes λ e. (read_passed _ _ _ _ _ _ refl e).buffer_whole);
          };
      is_write = λ number offset left sector call.
          record { tells = call.tells; writes = rw (call.tells.returns, call.places) writes.stores; locks = call.locks };
      read_same = λ number offset sector f call. call.places ∙ reads.same (λ e. f (call.tells.returns ∙ e));
      write_same = λ number offset left sector f call. call.places ∙ writes.same (λ e. f (call.tells.returns ∙ e));
    }
