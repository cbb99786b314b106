-- What stands in a new header, by its offsets. Assumes nothing.
use Prim.Native.Nat.{ℕ}
use mathlib.Core.{Path.{◌≡◌, refl, ap, ◌∙◌}, Bool.true, List.List}
use lib.ListN.{length}
use borrow.Author.Tests.{ne_eqb}
use Rattle.byte_tests.specs.Tests.{all_zero}
use Rattle.numbers.specs.Numbers.{big_endian_bytes}
use Rattle.layout.specs.declared.Layout.{Layout}
use Rattle.new_header.specs.NewHeader.{magic_bytes, new_fields, header_over}
use Rattle.header_laws.proofs.Parts.{Parts, new_header_parts}
use Rattle.header_claims.specs.{Numbers.AllZero, Writing.{Lays, LaysHeaders}}
use Rattle.header_claims.proofs.HeaderLaws.{all_zero_reflects}
use Rattle.header_claims.proofs.Reflects.{is_true, is_false, holds_true, true_exactly}
use Rattle.header_claims.proofs.RuleReflections.{new_lengths_reflects}

-- bytes of which a test finds zeros alone
zeros : {bytes others : List ℕ} → bytes ≡ others → all_zero others ≡ true → AllZero bytes
zeros {bytes} e all = holds_true (all_zero_reflects bytes) (ap all_zero e ∙ all)

lays : {layout : Layout} {salt keys h : List ℕ} → Parts (new_fields layout) layout.magic salt keys h → Lays layout salt keys h
unfolding new_fields magic_bytes all_zero big_endian_bytes
lays {layout} p =
    record {
      whole = p.whole;
      salt_laid = p.salt_part;
      vera_laid = λ e. p.magic_part ∙ rw e refl;
      true_laid = λ f. p.magic_part ∙ rw (ne_eqb layout.magic 0 f) refl;
      version_laid = p.version_part;
      min_program_version_laid = p.min_program_version_part;
      key_checksum_laid = p.key_checksum_part;
      reserved_laid = zeros p.reserved_part refl;
      hidden_size_laid = λ e. p.hidden_size_part ∙ rw e refl;
      no_hidden_size_laid = λ f. zeros {others = big_endian_bytes 8 0} (p.hidden_size_part ∙ rw (ne_eqb layout.kind 1 f) refl) refl;
      data_size_laid = p.data_size_part;
      data_start_laid = p.data_start_part;
      encrypted_size_laid = p.encrypted_size_part;
      flags_laid = zeros p.flags_part refl;
      sector_size_laid = p.sector_size_part;
      more_reserved_laid = zeros p.more_reserved_part refl;
      header_checksum_laid = p.header_checksum_part;
      keys_laid = p.keys_part;
    }

pub lays_headers : (layout : Layout) (salt keys before : List ℕ) → LaysHeaders layout salt keys before
unfolding header_over
lays_headers layout salt keys before =
    let lengths = new_lengths_reflects (length salt) (length keys) (length before) in
    record {
      lengths_test = λ salt_size keys_size header_size. true_exactly (new_lengths_reflects salt_size keys_size header_size);
      laid_over = λ s k b. rw (is_true lengths (s, (k, b))) (lays (new_header_parts layout salt keys s k));
      as_before = λ f. rw (is_false lengths f) refl;
    }
