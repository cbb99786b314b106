-- What a conversion between a buffer and a part of the image leaves, the buffer and the image after a call by its answer, and what a call on
-- a view with a key leaves. Assumes nothing.
use Prim.Native.Nat.{ℕ, ◌+◌, ◌-◌, ◌*◌, ◌/◌, ◌%◌, ◌^◌, ◌≤◌, ◌<◌}
use native.Mathlib.Omega.{arith}
use mathlib.Core.{Path.{◌≡◌, refl, sym, ap, ap₂, ◌∙◌}, Bool.{Bool, false}, List.List}
use lib.ListN.{length, take, drop}
use borrow.Rule.Slice.PartMut.{put_mid}
use Rattle.fields.specs.Bytes.{overlay}
use Rattle.answers.specs.Answers.{is_accepted, locked_after, Answer, refusal_number}
use Rattle.layout.specs.declared.Layout.{Layout}
use Rattle.sector_map.specs.SectorMap.{first_sector}
use Rattle.judgement.specs.Offsets.{extent_start}
use Rattle.aes.specs.declared.Direction.TheVariants.{Encipher, Decipher}
use Rattle.xts.specs.{Runs.{in_units, converted_run}, Units.{enciphered, deciphered}}
use Rattle.fields.proofs.OverlayLaws.{part_size, part_laid}
use Rattle.xts.proofs.{RunLaws.run_fits, UnitLaws.{length_units, length_converted}}
use Rattle.view.specs.Outcomes.{after}
use Rattle.plaintext.specs.Plaintext.{plain_filled_by, plain_written_by, plain_read_answer, plain_write_answer, PlainReadPost, PlainWritePost}
use Rattle.plaintext.specs.declared.KeyedView.{KeyedView}
use Rattle.std.specs.Prelude.{Ok, ⊤}

-- ---- between a buffer and a part of the image

module _ (key image buffer : List ℕ) (start : ℕ) (fits : start + length buffer ≤ length image) (whole : length buffer % 512 ≡ 0)
    (few : start / 512 + length buffer / 512 < 2 ^ 64) where
  abbrev borrowed : List ℕ
  borrowed = take (start + length buffer - start) (drop start image)

  borrowed_size : length borrowed ≡ length buffer
  borrowed_size = part_size start (length buffer) image fits

  -- a buffer that the part is deciphered into
  pub deciphered_out : converted_run Decipher key (start / 512) borrowed buffer
      ≡ in_units (deciphered key) (length buffer / 512) (start / 512) (take (length buffer) (drop start image))
  deciphered_out =
      let cut : start + length buffer - start ≡ length buffer = omega arith in
      sym (run_fits Decipher key (start / 512) borrowed buffer borrowed_size (omega (arith, borrowed_size, whole)) (omega (arith, borrowed_size, few)))
      ∙ ap₂ (λ (n : ℕ) (bytes : List ℕ). in_units (deciphered key) (n / 512) (start / 512) bytes) borrowed_size
      (ap (λ (n : ℕ). take n (drop start image)) cut)

  -- an image whose part the buffer is enciphered into
  pub enciphered_in : put_mid start (start + length buffer - start) image (converted_run Encipher key (start / 512) buffer borrowed)
      ≡ overlay start (in_units (enciphered key) (length buffer / 512) (start / 512) buffer) image
  enciphered_in =
      let content = in_units (enciphered key) (length buffer / 512) (start / 512) buffer in
      let size = length_units (enciphered key) (length_converted Encipher key) (length buffer / 512) (start / 512) buffer in
      ap (put_mid start (start + length buffer - start) image) (sym (run_fits Encipher key (start / 512) buffer borrowed (sym borrowed_size) whole few))
      ∙ part_laid start (length buffer) content image (omega (arith, size, whole))

-- ---- by the answer

module _ (answer : Answer ⊤) (layout : Layout) (key image : List ℕ) (first count : ℕ) (buffer : List ℕ) where
  module _ (start : ℕ) (accepted : answer ≡ Ok tt) (at : start ≡ extent_start layout first) (whole : length buffer ≡ count * 512) where
    sectors : length buffer / 512 ≡ count
    sectors = omega (arith, whole)

    -- the tweak number is the host sector's
    number : start / 512 ≡ first_sector layout + first
    unfolding extent_start first_sector
    number = omega (arith, at)

    pub plain_filled_accepted : in_units (deciphered key) (length buffer / 512) (start / 512) (take (length buffer) (drop start image))
        ≡ plain_filled_by answer layout key image first count buffer
    unfolding plain_filled_by is_accepted
    plain_filled_accepted = rw (accepted, sectors, number, ← at, whole)

    pub plain_written_accepted : overlay start (in_units (enciphered key) (length buffer / 512) (start / 512) buffer) image
        ≡ plain_written_by answer layout key image first count buffer
    unfolding plain_written_by is_accepted
    plain_written_accepted = rw (accepted, sectors, number, ← at)

  pub plain_filled_refused : is_accepted answer ≡ false → buffer ≡ plain_filled_by answer layout key image first count buffer
  unfolding plain_filled_by
  plain_filled_refused e = rw e

  pub plain_written_refused : is_accepted answer ≡ false → image ≡ plain_written_by answer layout key image first count buffer
  unfolding plain_written_by
  plain_written_refused e = rw e

-- ---- on a view with a key

module _ (keyed : KeyedView) (image : List ℕ) (first count : ℕ) (buffer : List ℕ) (answer : Answer ⊤) where
  pub plain_read_post : (filled : List ℕ) → answer ≡ plain_read_answer keyed image first count buffer
      → filled ≡ plain_filled_by answer keyed.view.layout keyed.key image first count buffer
      → PlainReadPost keyed image first count buffer (record { view = keyed; answer = answer }) filled
  plain_read_post filled judged fills =
      record {
        same = refl;
        answers = judged;
        fills = fills ∙ ap (λ (a : Answer ⊤). plain_filled_by a keyed.view.layout keyed.key image first count buffer) judged;
      }

  pub plain_write_post : (locked : Bool) (written : List ℕ) → answer ≡ plain_write_answer keyed image first count buffer
      → written ≡ plain_written_by answer keyed.view.layout keyed.key image first count buffer
      → locked ≡ locked_after keyed.view.locked (refusal_number answer)
      → PlainWritePost keyed image first count buffer
      (record {
        view = record { view = record { layout = keyed.view.layout; protection = keyed.view.protection; locked = locked }; key = keyed.key };
        answer = answer;
      })
      written
  unfolding after
  plain_write_post locked written judged writes locks =
      record {
        back = rw (locks, judged);
        answers = judged;
        writes = writes ∙ ap (λ (a : Answer ⊤). plain_written_by a keyed.view.layout keyed.key image first count buffer) judged;
      }
