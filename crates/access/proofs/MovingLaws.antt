-- What a copy between a buffer and a part of the image leaves, and the buffer and the image after a call by its answer.
-- Assumes nothing.
use Prim.Native.Nat.{ℕ, ◌+◌, ◌-◌, ◌*◌, ◌≤◌}
use native.Mathlib.Omega.{arith}
use native.Mathlib.Nat.{add-sub_cancel_left, zero-add}
use mathlib.Core.{Path.{◌≡◌, refl, ap, ◌∙◌}, Bool.false, List.{List, append-nil}}
use lib.{ListN.{length, take, drop, drop_of_length-le, length-drop}, Seq.length-take-le}
use Rattle.answers.specs.Answers.{is_accepted, Answer}
use Rattle.fields.specs.Bytes.{overlay}
use Rattle.copy.{specs.Copy.copied, proofs.CopyLaws.copied_fits}
use Rattle.layout.specs.{Rules.sector_bytes, declared.Layout.Layout}
use Rattle.judgement.specs.Offsets.{extent_start}
use Rattle.access.specs.Moving.{filled_by, written_by}
use Rattle.std.specs.Prelude.{Ok, ⊤}

-- a part of an image that starts at an offset
part_length : (image : List ℕ) (size offset : ℕ) → offset + size ≤ length image → length (take size (drop offset image)) ≡ size
part_length image size offset h =
    let fits : size ≤ length (drop offset image) = simp length-drop (omega arith) in
    length-take-le size (drop offset image) fits

-- a buffer filled from the part of an image that starts at an offset and is as long
pub copy_out : (image buffer : List ℕ) (offset : ℕ) → offset + length buffer ≤ length image
    → copied 0 (take (offset + length buffer - offset) (drop offset image)) buffer ≡ take (length buffer) (drop offset image)
unfolding overlay
copy_out image buffer offset fits =
    let part = take (length buffer) (drop offset image) in
    let size = part_length image (length buffer) offset fits in
    let none : length buffer ≤ length part = omega (arith, size) in
    ap (λ (n : ℕ). copied 0 (take n (drop offset image)) buffer) (add-sub_cancel_left offset (length buffer))
    ∙ copied_fits 0 part buffer (omega (arith, size))
    ∙ rw (zero-add, drop_of_length-le buffer none, append-nil) refl

module _ (answer : Answer ⊤) (layout : Layout) (image : List ℕ) (first : ℕ) (buffer : List ℕ) where
  pub filled_accepted : (count start : ℕ) → answer ≡ Ok tt → start ≡ extent_start layout first → length buffer ≡ count * sector_bytes
      → take (length buffer) (drop start image) ≡ filled_by answer layout image first count buffer
  unfolding filled_by is_accepted
  filled_accepted count start e at whole = rw (e, at, whole)

  pub filled_refused : (count : ℕ) → is_accepted answer ≡ false → buffer ≡ filled_by answer layout image first count buffer
  unfolding filled_by
  filled_refused count e = rw e

  pub written_accepted : (start : ℕ) → answer ≡ Ok tt → start ≡ extent_start layout first
      → overlay start buffer image ≡ written_by answer layout image first buffer
  unfolding written_by is_accepted
  written_accepted start e at = rw (e, at)

  pub written_refused : is_accepted answer ≡ false → image ≡ written_by answer layout image first buffer
  unfolding written_by
  written_refused e = rw e
