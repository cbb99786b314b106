-- Reads and writes of plaintext on any view with a key answer as raw ones do, across the boundary too, and move sectors in their form.
-- Assumes nothing.
use Prim.Native.Nat.{ℕ, ◌+◌, ◌*◌, ◌≤◌}
use native.Mathlib.Omega.{arith}
use mathlib.Core.{Path.{◌≡◌, refl, sym, ap, ◌∙◌}, Bool.Bool, List.List}
use lib.ListN.{length}
use Rattle.fields.specs.Bytes.{overlay}
use Rattle.fields.proofs.OverlayLaws.{length_overlay, part_overlay}
use Rattle.answers.specs.Answers.{is_accepted}
use Rattle.sector_map.specs.SectorMap.{first_sector}
use Rattle.judgement.specs.{Judging.read_answer, Offsets.extent_start}
use Rattle.judgement.proofs.JudgingLaws.{Passed, write_passed, passed_ends, checked_passed}
use Rattle.aes.specs.declared.Direction.TheVariants.{Encipher}
use Rattle.xts.specs.{Runs.in_units, Units.{enciphered, deciphered}}
use Rattle.xts.proofs.UnitLaws.{length_units, length_converted}
use Rattle.cipher_laws.proofs.RunLaws.{run_deciphered_enciphered}
use Rattle.view.specs.Outcomes.{after}
use Rattle.plaintext.specs.{Plaintext.{plain_filled_by, plain_written_by}, declared.KeyedView.KeyedView}
use Rattle.access_claims.specs.Plaintext.{PlaintextByTable, GivesBack, TellsAsRaw}
use Rattle.access_claims.specs.ReferenceModel.{stored_as, shown_as, view_rules}
use Rattle.access_claims.specs.Table.{plaintext, tabled}
use Rattle.access_claims.proofs.Access.{filled_in, written_in, accesses_by_table}
use Rattle.access_claims.proofs.TableLaws.{lock_left_lem}
use Rattle.std.specs.Prelude.{Ok}

pub plaintext_by_table : (keyed : KeyedView) (image : List ℕ) (first count : ℕ) (buffer : List ℕ) → PlaintextByTable keyed image first count buffer
unfolding plain_filled_by plain_written_by stored_as shown_as view_rules tabled after
plaintext_by_table keyed image first count buffer =
    let view = keyed.view in
    let key = keyed.key in
    let raws = accesses_by_table view image first count buffer in
    record {
      read_tabled = raws.read_tabled key;
      write_tabled = raws.write_tabled key;
      filled = filled_in view image first count buffer plaintext key;
      written = written_in view image first count buffer plaintext key;
      read_back = λ outcome left post. (post.answers, post.same, post.fills);
      write_back = λ outcome left post. (
        post.answers,
        post.back
            ∙ ap (λ (locked : Bool). record { view = record { layout = view.layout; protection = view.protection; locked = locked }; key = key })
            (sym (lock_left_lem _ view.locked)),
        post.writes,
      );
      read_alike = λ outcome other left other_left post other_post. (
        post.answers ∙ sym other_post.answers,
        ap (λ (k : KeyedView). k.view) post.same ∙ sym other_post.same,
      );
      write_alike = λ outcome other left other_left post other_post. (
        post.answers ∙ sym other_post.answers,
        ap (λ (k : KeyedView). k.view) post.back ∙ sym other_post.back,
      );
    }

pub gives_back : (keyed : KeyedView) (image : List ℕ) (first count : ℕ) (buffer : List ℕ) → GivesBack keyed image first count buffer
unfolding plain_filled_by plain_written_by is_accepted read_answer
gives_back keyed image first count buffer =
    let layout = keyed.view.layout in
    let protection = keyed.view.protection in
    let key = keyed.key in
    let host = first_sector layout + first in
    let start = extent_start layout first in
    let stored = in_units (enciphered key) count host buffer in
    let size : length stored ≡ count * 512 = length_units (enciphered key) (length_converted Encipher key) count host buffer in
    record {
      reads_written = λ k bytes accepted room same.
          let p = write_passed layout protection (length image) first count (length buffer) keyed.view.locked refl accepted in
          let fits : start + length stored ≤ length image =
          omega (arith, size, p.buffer_whole, passed_ends layout protection (length image) first count (length buffer) p) in
          let whole : length (overlay start stored image) ≡ layout.host_size = length_overlay start stored image fits ∙ p.image_whole in
          let passed : Passed layout protection (length (overlay start stored image)) first count (length room) =
          record {
            soundness = p.soundness;
            image_whole = whole;
            few = p.few;
            buffer_whole = same ∙ p.buffer_whole;
            aligned = p.aligned;
            inside = p.inside;
          } in
          rw accepted (
            sym (checked_passed layout protection (length (overlay start stored image)) first count (length room) passed (Ok tt)),
            ap (in_units (deciphered key) count host) (part_overlay start (count * 512) stored image size (omega (arith, size, fits)))
                ∙ run_deciphered_enciphered key count host buffer k.each p.buffer_whole bytes,
          );
    }

pub tells_as_raw : (view key image : List ℕ) (first count : ℕ) (buffer sector_before : List ℕ) → TellsAsRaw view key image first count buffer sector_before
tells_as_raw view key image first count buffer sector_before =
    record {
      is_read = λ number filled sector call. record { tells = call.tells; fills = refl };
      is_write = λ number written left sector call. record { tells = call.tells; writes = refl; locks = call.locks };
    }
