-- What views, reads and writes are made of keeps its rules. Assumes nothing.
use Prim.Native.Nat.{ℕ, suc, ◌+◌, ◌*◌, ◌/◌}
use native.Mathlib.Omega.{arith}
use mathlib.Core.Path.{refl, sym}
use Rattle.answers.specs.Answers.{is_accepted}
use Rattle.fields.specs.Bytes.{overlay}
use Rattle.copy.proofs.CopyLaws.{copied_fits, copied_none}
use Rattle.judgement.specs.Judging.{alignment_rule}
use Rattle.judgement.specs.Offsets.{extent_start, placed_by}
use Rattle.layout.specs.{Rules.multiple, declared.Layout.Layout}
use Rattle.layout.proofs.SectorSizeLaws.{multiple_in_sectors}
use Rattle.protection.specs.Protection.{sound_protection, protected_extent}
use Rattle.pairing.specs.Pairs.{paired}
use Rattle.header_claims.specs.{Header.Multiple, SectorMap.{Sound, InArea}}
use Rattle.access_claims.specs.{Parts.KeepsParts, ReferenceModel.in_range, Views.area}
use Rattle.access_claims.proofs.Extents.{within, inside}
use Rattle.access_claims.proofs.NestLaws.{nests_reflects}
use Rattle.access_claims.proofs.RangeLaws.{sector_reflects}
use Rattle.header_claims.proofs.Reflects.{Reflects, is_true, is_false, holds_true, true_exactly, reflects_map, reflects_and, reflects_leb}
use Rattle.header_claims.proofs.RuleReflections.{multiple_reflects, sector_size_reflects}
use Rattle.header_claims.proofs.SoundLaws.{sound_reflects, sound_on_sectors}
use Rattle.access_claims.proofs.TableLaws.{lock_left_lem}
use Rattle.access_claims.proofs.ViewLaws.{range_reflects}
use Rattle.protection.specs.Protection.{Protection}

-- a sector lies in a data area as a range exactly where its bytes do
area_reflects : (layout : Layout) (s : Sound layout) (host : ℕ) → Reflects (InArea layout host) (in_range (area layout) host)
unfolding in_range
area_reflects layout s host =
    reflects_map
    (λ p. record { starts = p.0; ends = omega (arith, p.1, sound_on_sectors layout s) })
    (λ i. (i.starts, omega (arith, i.ends)))
    (reflects_and (reflects_leb layout.data_start (host * 512)) (reflects_leb (suc (host * 512)) (layout.data_start + layout.data_size)))

-- a count of sectors is a multiple of Z/512 exactly where its bytes are one of Z
bytes_reflect : (layout : Layout) (s : Sound layout) (number : ℕ)
    → Reflects (Multiple (number * 512) layout.sector_size) (multiple number (layout.sector_size / 512))
bytes_reflect layout s number =
    rw (multiple_in_sectors number layout.sector_size (is_true (sector_size_reflects layout.sector_size) s.sectors))
    (multiple_reflects (number * 512) layout.sector_size)

aligned_reflects : (layout : Layout) (s : Sound layout) (first count : ℕ)
    → Reflects (Multiple (first * 512) layout.sector_size × Multiple (count * 512) layout.sector_size) (alignment_rule layout first count)
unfolding alignment_rule
aligned_reflects layout s first count = reflects_and (bytes_reflect layout s first) (bytes_reflect layout s count)

pub keeps_parts : (layout hidden_layout : Layout) (protection : Protection) → KeepsParts layout hidden_layout protection
unfolding sound_protection paired is_accepted extent_start placed_by overlay
keeps_parts layout hidden_layout protection =
    let first = sound_reflects layout in
    let second = sound_reflects hidden_layout in
    record {
      acceptance = refl;
      no_acceptance = λ number. refl;
      no_acceptance_at = λ number sector. refl;
      soundness = true_exactly (reflects_and first (range_reflects layout protection));
      sectors = λ s r user host e.
          let reflects = sector_reflects layout protection s r user host e in
          (λ w. is_true reflects (inside (protected_extent layout protection) user w), λ t. within (protected_extent layout protection) user (holds_true reflects t));
      hidden_sectors = λ s host. true_exactly (area_reflects hidden_layout s host);
      pair_nests = λ s t n. simp (is_true first s, is_true second t, is_true (nests_reflects layout hidden_layout) n);
      pair_unsound = λ f. simp (is_false (reflects_and first second) f);
      pair_apart = λ s t f. simp (is_true first s, is_true second t, is_false (nests_reflects layout hidden_layout) f);
      aligned = λ s first count. true_exactly (aligned_reflects layout s first count);
      locks = λ locked answer. sym (lock_left_lem answer locked);
      starts = λ start. refl;
      no_start = λ start number. refl;
      no_start_at = λ start number sector. refl;
      copies = copied_fits;
      copies_nothing = copied_none;
    }
