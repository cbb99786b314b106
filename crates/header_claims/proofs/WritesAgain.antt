-- A header that opened, taken apart and written again, is the same for VERA, and for TRUE exactly where its unused bytes are zero.
-- Assumes nothing.
use Prim.Native.Nat.{ℕ, ◌+◌}
use native.Mathlib.Omega.{arith}
use mathlib.Core.{Path.{◌≡◌, refl, sym, ap, ◌∙◌}, Bool.{true}, List.{List, [], ◌∷◌}}
use lib.{Dec.{leb, eqb}, ListN.{length, length-take, length-drop}}
use borrow.Author.Tests.{eq-eqb, leb-true}
use Rattle.bits.specs.Bits.{Bytes}
use Rattle.fields.specs.Bytes.{part}
use Rattle.layout.specs.Rules.{host_size_rule, sector_size_rule, data_area_rule}
use Rattle.layout.specs.declared.Layout.{Layout}
use Rattle.layout.proofs.RuleLaws.{and_true_right}
use Rattle.locations.specs.Locations.{code_rule, location_of}
use Rattle.header_format.specs.Format.{magic_number, version_rule}
use Rattle.header.specs.Header.{magic_of, fields_of, accepted_layout, area_rule}
use Rattle.header.proofs.JudgeLaws.{Kept, judge_kept}
use Rattle.opening.specs.Opening.{opened}
use Rattle.header_format.specs.Format.{new_lengths_rule}
use Rattle.new_header.specs.NewHeader.{new_header}
use Rattle.header_writing.specs.HeaderWriting.{asked_layout, header_answer, header_left}
use Rattle.header_laws.proofs.{OpenedOne.opened_one, WrittenAgain.{Zeros, written_again_lem, again_zeros, vera_zeros}}
use Rattle.header_claims.specs.{Header.{vera_letters, true_letters}, Opening.{Codes, Allowed}}
use Rattle.header_claims.specs.{Numbers.AllZero, Writing.{Request, answer_to, left_by, taken_apart, WritesAgain}}
use Rattle.header_claims.proofs.HeaderLaws.{all_zero_reflects}
use Rattle.header_claims.proofs.Opening.{opened_allowed}
use Rattle.header_claims.proofs.ReadsBack.{vera_number, true_number}
use Rattle.header_claims.proofs.Reflects.{is_true, holds_true}
use Rattle.header_claims.proofs.RuleReflections.{code_reflects, host_size_reflects}
use Rattle.header_claims.proofs.WritingLaws.{asked}
use Rattle.std.specs.Prelude.{Ok, ⊤}
use Rattle.answers.specs.Answers.{Answer}

module _ (h : List ℕ) (code host_size : ℕ) (layout : Layout) (before : List ℕ) (e : opened h (code ∷ []) host_size ≡ Ok layout)
    (small : Bytes h) (room : length before ≡ 512) where
  allowed : Allowed h (code ∷ []) host_size
  allowed = opened_allowed h (code ∷ []) host_size layout e

  whole : length h ≡ 512
  whole = omega (arith, allowed.lengths.whole)

  code_kept : code_rule code ≡ true
  unfolding Codes
  code_kept = is_true (code_reflects code) (allowed.codes_known 0 (omega arith))

  host_kept : host_size_rule host_size ≡ true
  host_kept = is_true (host_size_reflects host_size) allowed.size

  kept : Kept (location_of code).kind host_size 0 h layout
  kept = judge_kept (location_of code).kind host_size 0 h layout (sym (opened_one h code host_size whole code_kept host_kept) ∙ e)

  -- what the layout tells, field by field
  abbrev told : Layout
  told = accepted_layout (location_of code).kind host_size 0 (magic_of h) (fields_of h)

  host_told : host_size ≡ layout.host_size
  unfolding accepted_layout
  host_told = ap (λ (l : Layout). l.host_size) kept.told

  kind_told_lem : (location_of code).kind ≡ layout.kind
  unfolding accepted_layout
  kind_told_lem = ap (λ (l : Layout). l.kind) kept.told

  candidate_told_lem : 0 ≡ layout.candidate
  unfolding accepted_layout
  candidate_told_lem = ap (λ (l : Layout). l.candidate) kept.told

  version_kept : version_rule layout.magic layout.version ≡ true
  unfolding accepted_layout
  version_kept = ap (λ (l : Layout). version_rule l.magic l.version) (sym kept.told) ∙ kept.version

  area_kept : data_area_rule layout ≡ true
  unfolding area_rule accepted_layout
  area_kept =
      ap data_area_rule (sym kept.told)
      ∙ and_true_right (eqb (fields_of h).encrypted_size (fields_of h).data_size) (data_area_rule told) kept.data_area

  sectors_kept : sector_size_rule layout.sector_size ≡ true
  unfolding accepted_layout
  sectors_kept = ap (λ (l : Layout). sector_size_rule l.sector_size) (sym kept.told) ∙ kept.sector_size

  -- a part of the header has its size
  part_size : (offset size : ℕ) → leb (offset + size) 512 ≡ true → length (part offset size h) ≡ size
  part_size offset size inside = simp (length-take, length-drop) (omega (arith, whole, leb-true (offset + size) 512 inside))

  module _ (letters : List ℕ) (magic : ℕ) (spelt : magic_number letters ≡ magic) (known : leb magic 1 ≡ true) (is : layout.magic ≡ magic) where
    abbrev request : Request
    request = taken_apart letters h code layout

    same_layout : asked request ≡ layout
    unfolding asked_layout
    same_layout =
        let magic-is = spelt ∙ sym is in
        λ i. record {
          host_size = layout.host_size;
          kind = kind_told_lem i;
          magic = magic-is i;
          version = layout.version;
          min_program_version = layout.min_program_version;
          data_start = layout.data_start;
          data_size = layout.data_size;
          candidate = candidate_told_lem i;
          sector_size = layout.sector_size;
        }

    done : answer_to request before ≡ Ok tt
    unfolding header_answer new_lengths_rule
    done =
        let size = length (part 0 64 h) in
        let keys_size = length (part 256 256 h) in
        ap (λ (l : Layout). header_answer code l size keys_size (length before)) same_layout
        ∙ simp (
          eq-eqb size 64 (part_size 0 64 refl),
          eq-eqb keys_size 256 (part_size 256 256 refl),
          eq-eqb (length before) 512 room,
          is,
          known,
          code_kept,
          ap host_size_rule (sym host_told) ∙ host_kept,
          ap (λ (m : ℕ). version_rule m layout.version) (sym is) ∙ version_kept,
          sectors_kept,
          area_kept,
        )

    left_is : left_by request before ≡ new_header layout (part 0 64 h) (part 256 256 h)
    unfolding header_left
    left_is =
        ap (λ (answer : Answer ⊤). header_left answer (asked request) (part 0 64 h) (part 256 256 h) before) done
        ∙ ap (λ (l : Layout). new_header l (part 0 64 h) (part 256 256 h)) same_layout

    zeros_same : Zeros h → left_by request before ≡ h
    zeros_same zeros = left_is ∙ written_again_lem (location_of code).kind host_size 0 h layout kept small zeros

    same_zeros : left_by request before ≡ h → Zeros h
    same_zeros same = again_zeros (location_of code).kind host_size 0 h layout kept small (sym left_is ∙ same)

  vera_again_lem : layout.magic ≡ 0 → left_by (taken_apart vera_letters h code layout) before ≡ h
  vera_again_lem is = zeros_same vera_letters 0 vera_number refl is (vera_zeros (location_of code).kind host_size 0 h layout kept small is)

  zero_parts : Zeros h → AllZero (part 76 16 h) × AllZero (part 132 120 h)
  zero_parts zeros = (holds_true (all_zero_reflects (part 76 16 h)) zeros.0, holds_true (all_zero_reflects (part 132 120 h)) zeros.1)

  parts_zero : AllZero (part 76 16 h) × AllZero (part 132 120 h) → Zeros h
  parts_zero zeros = (is_true (all_zero_reflects (part 76 16 h)) zeros.0, is_true (all_zero_reflects (part 132 120 h)) zeros.1)

  true_again_lem : layout.magic ≡ 1
      → (left_by (taken_apart true_letters h code layout) before ≡ h → AllZero (part 76 16 h) × AllZero (part 132 120 h))
      × (AllZero (part 76 16 h) × AllZero (part 132 120 h) → left_by (taken_apart true_letters h code layout) before ≡ h)
  true_again_lem is =
      (λ same. zero_parts (same_zeros true_letters 1 true_number refl is same), λ zeros. zeros_same true_letters 1 true_number refl is (parts_zero zeros))

pub writes_again : (h : List ℕ) (code host_size : ℕ) (layout : Layout) (before : List ℕ) → WritesAgain h code host_size layout before
writes_again h code host_size layout before =
    record { vera_again = vera_again_lem h code host_size layout before; true_again = true_again_lem h code host_size layout before }
