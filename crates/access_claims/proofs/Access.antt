-- Reads and writes on any view keep the table of refusals and move sectors, in any form; raw ones as they are. Assumes nothing.
use Prim.Native.Nat.{ℕ, ◌+◌, ◌*◌}
use native.Mathlib.Omega.{arith}
use mathlib.Core.{Path.{◌≡◌, refl, sym, ap, ◌∙◌}, Bool.cond, List.List}
use lib.{Dec.{leb, eqb}, ListN.{length, take, drop}, Seq.{take_all, take-take}}
use Rattle.judgement.specs.{Judging.{alignment_rule, checked, read_answer, write_answer}, Offsets.extent_start}
use Rattle.layout.specs.Rules.{multiple}
use Rattle.fields.specs.Bytes.{overlay}
use Rattle.access.specs.Moving.{filled_by, written_by}
use Rattle.judgement.proofs.JudgingLaws.{Passed, read_passed, write_passed}
use Rattle.answers.specs.Answers.{is_accepted, Answer, refuse}
use Rattle.sector_map.specs.SectorMap.{sectors, first_sector}
use Rattle.view.specs.{Outcomes.after, declared.View.View}
use Rattle.xts.specs.Runs.{in_units}
use Rattle.model.specs.Model.{buffer_after, image_after}
use Rattle.access_claims.specs.Access.{call, rules, read_by, write_by, AccessesByTable}
use Rattle.access_claims.specs.ReferenceModel.{is_write, hosts_of, stored_as, shown_as, view_rules}
use Rattle.header_claims.specs.SectorMap.{Sound}
use Rattle.access_claims.specs.Table.{reads, writes, Form, raw, is_whole, check, later, tabled}
use Rattle.access_claims.proofs.ExtentLaws.{gather_extent, lay_extent}
use Rattle.access_claims.proofs.FormLaws.{stored_sized_lem, in_units_given}
use Rattle.access_claims.proofs.RangeLaws.{lock_range}
use Rattle.header_claims.proofs.Reflects.{holds_true, is_true, is_false}
use Rattle.access_claims.proofs.TableLaws.{lock_left_lem}
use Rattle.access_claims.proofs.ViewLaws.{view_reflects}
use Rattle.access_claims.proofs.WalkLaws.{end_tabled}
use Rattle.std.specs.Prelude.{Ok, Err, ⊤}

-- what an acceptance leaves is alike where an acceptance says so
accepted_alike : (answer : Answer ⊤) (x y other : List ℕ) → (answer ≡ Ok tt → x ≡ y) → cond (is_accepted answer) x other ≡ cond (is_accepted answer) y other
unfolding is_accepted
accepted_alike (Ok done) x y other same = same refl
accepted_alike (Err refusal) x y other same = refl

module _ (view : View) (image : List ℕ) (first count : ℕ) (buffer : List ℕ) where
  abbrev reading : Answer ⊤
  reading = read_by view image first count buffer

  abbrev writing : Answer ⊤
  writing = write_by view image first count buffer

  -- the first host sector of the extent, and its first byte
  abbrev host : ℕ
  host = first_sector view.layout + first

  abbrev start : ℕ
  start = extent_start view.layout first

  -- an accepted call's layout is sound
  passed_sound : Passed view.layout view.protection (length image) first count (length buffer) → Sound view.layout
  passed_sound p = (holds_true (view_reflects view) p.soundness).layout_sound

  -- in any form, what a read fills its buffer with is the model's, and so is the image that a write leaves
  pub filled_in : (form : Form) (key : List ℕ)
      → cond (is_accepted reading) (in_units (shown_as form key) count host (take (count * 512) (drop start image))) buffer
      ≡ buffer_after (rules view image first count buffer key) (call view image first count buffer form reads) reading image
  unfolding view_rules is_write hosts_of buffer_after
  filled_in form key =
      accepted_alike reading _ _ buffer λ e.
      let p = read_passed _ _ _ _ _ _ refl e in sym (gather_extent view.layout (passed_sound p) first count p.inside (shown_as form key) image)

  pub written_in : (form : Form) (key : List ℕ)
      → cond (is_accepted writing) (overlay start (in_units (stored_as form key) count host buffer) image) image
      ≡ image_after (rules view image first count buffer key) (call view image first count buffer form writes) writing image
  unfolding view_rules is_write hosts_of image_after
  written_in form key =
      accepted_alike writing _ _ image λ e.
      let p = write_passed _ _ _ _ _ _ _ refl e in
      sym (lay_extent view.layout (passed_sound p) first count p.inside (stored_as form key) (stored_sized_lem form key) buffer image p.buffer_whole
      p.image_whole)

  -- raw bytes in their form are as they are
  filled_raw : (key : List ℕ)
      → in_units (shown_as raw key) count host (take (count * 512) (drop start image)) ≡ take (count * 512) (drop start image)
  unfolding shown_as
  filled_raw key = in_units_given count host _ ∙ take-take (count * 512) (count * 512) (drop start image) (omega arith)

  written_raw : (key : List ℕ) → length buffer ≡ count * 512 → in_units (stored_as raw key) count host buffer ≡ buffer
  unfolding stored_as
  written_raw key size = in_units_given count host buffer ∙ take_all (count * 512) buffer (omega arith)

  -- the checks of the lengths and of whole sectors, and then the rest
  abbrev sizes_checked : Answer ⊤ → Answer ⊤
  sizes_checked rest =
      check (refuse 13) (eqb (length image) view.layout.host_size)
      (check (refuse 14) (leb count 128)
      (check (refuse 15) (eqb (length buffer) (count * 512)) (check (refuse 20) (alignment_rule view.layout first count) rest)))

  pub accesses_by_table : AccessesByTable view image first count buffer
  unfolding read_answer write_answer checked alignment_rule multiple is_whole tabled later sectors after filled_by written_by view_rules
  accesses_by_table =
      let layout = view.layout in
      let reflects = view_reflects view in
      record {
        unsound_read = λ f. rw (is_false reflects f);
        unsound_write = λ f. rw (is_false reflects f);
        read_tabled = λ key s.
            rw (is_true reflects s) (ap sizes_checked (end_tabled layout s.layout_sound first count (Ok tt) (Ok tt) (λ inside. refl)));
        write_tabled = λ key s.
            rw (is_true reflects s)
            (ap sizes_checked (end_tabled layout s.layout_sound first count _ _ λ inside.
            lock_range layout s.layout_sound first count view.protection view.locked s.range_sound inside));
        filled = λ key. accepted_alike reading _ _ buffer (λ e. sym (filled_raw key)) ∙ filled_in raw key;
        written = λ key.
            accepted_alike writing _ _ image (λ e.
            ap (λ (bytes : List ℕ). overlay start bytes image) (sym (written_raw key (write_passed _ _ _ _ _ _ _ refl e).buffer_whole)))
            ∙ written_in raw key;
        read_back = λ outcome left post. (post.answers, post.same, post.fills);
        write_back = λ outcome left post. (
          post.answers,
          post.back ∙ ap (λ locked. record { layout = layout; protection = view.protection; locked = locked }) (sym (lock_left_lem _ view.locked)),
          post.writes,
        );
      }
