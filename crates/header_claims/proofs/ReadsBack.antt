-- What is written is read back: it opens with the same fields, its keys and its salt are those that were given, and its unused bytes are zero.
-- Assumes nothing.
use Prim.Native.Nat.{ℕ}
use mathlib.Core.{Path.{◌≡◌, refl, ap, subst, ◌∙◌}, Bool.true, List.{List, [], ◌∷◌}}
use lib.ListN.{length, replicate}
use borrow.Author.Tests.{leb-true}
use Rattle.fields.specs.Bytes.{part}
use Rattle.byte_tests.specs.Tests.{same_bytes, all_zero}
use Rattle.header_format.specs.Format.{magic_number}
use Rattle.opening.specs.Opening.{opened}
use Rattle.key_bytes.specs.KeyBytes.{keys_offset, keys_size, KeyBytes}
use Rattle.new_header.specs.NewHeader.{new_fields, new_header}
use Rattle.header_writing.specs.HeaderWriting.{asked_layout, header_left}
use Rattle.header_writing.proofs.AnswerLaws.{Passed, done_passed, done_lengths}
use Rattle.header_laws.proofs.{OpenedOne.opened_one, Parts.{Parts, new_header_parts, new_header_bytes}, ReadBack.judged_back}
use Rattle.header_claims.specs.Header.{vera_letters, true_letters}
use Rattle.header_claims.specs.{Numbers.AllZero, Writing.{Request, Passable, answer_to, left_by, layout_for, Passes, ReadsBack}}
use Rattle.header_claims.proofs.HeaderLaws.{all_zero_reflects}
use Rattle.header_claims.proofs.Reflects.{holds_true}
use Rattle.header_claims.proofs.WritingLaws.{asked, asked_is, code_passes}
use Rattle.std.specs.Prelude.{Ok, ⊤}
use Rattle.answers.specs.Answers.{Answer}
use Rattle.layout.specs.declared.Layout.{Layout}

module _ (r : Request) (before : List ℕ) (done : answer_to r before ≡ Ok tt) where
  passed : Passed r.code (asked r) (length r.salt) (length r.keys) (length before)
  passed = done_passed r.code (asked r) (length r.salt) (length r.keys) (length before) done

  sizes : (length r.salt ≡ 64) × ((length r.keys ≡ 256) × (length before ≡ 512))
  sizes = done_lengths r.code (asked r) (length r.salt) (length r.keys) (length before) done

  left_is : left_by r before ≡ new_header (asked r) r.salt r.keys
  unfolding header_left
  left_is = ap (λ (answer : Answer ⊤). header_left answer (asked r) r.salt r.keys before) done

  parts : Parts (new_fields (asked r)) (asked r).magic r.salt r.keys (new_header (asked r) r.salt r.keys)
  parts = new_header_parts (asked r) r.salt r.keys sizes.0 sizes.1.0

  opens : Passable r → opened (left_by r before) (r.code ∷ []) r.host_size ≡ Ok (asked r)
  unfolding asked_layout
  opens p =
      let small = new_header_bytes (asked r) r.salt r.keys sizes.0 sizes.1.0 p.salt_bytes p.key_bytes in
      let known = leb-true (asked r).magic 1 passed.known_magic in
      ap (λ (h : List ℕ). opened h (r.code ∷ []) r.host_size) left_is
      ∙ opened_one (new_header (asked r) r.salt r.keys) r.code r.host_size parts.whole passed.known_code passed.host
      ∙ judged_back (asked r) passed.host passed.sectors passed.area parts p.key_bytes small known p.program_bits passed.supported

  told : (magic : ℕ) → magic_number r.magic ≡ magic → asked r ≡ layout_for magic r
  unfolding Passes
  told magic e = asked_is r (holds_true (code_passes r (length before)) passed.known_code) ∙ ap (λ (m : ℕ). layout_for m r) e

  opens_as : (magic : ℕ) → magic_number r.magic ≡ magic → Passable r
      → opened (left_by r before) (r.code ∷ []) r.host_size ≡ Ok (layout_for magic r)
  opens_as magic e p = opens p ∙ ap Ok (told magic e)

  keys_given_lem : Passable r → (borrowed : ℕ × ℕ) (given : List ℕ) (returned : ℕ × ℕ)
      → KeyBytes (opened (left_by r before) (r.code ∷ []) r.host_size) (left_by r before) borrowed given returned → given ≡ r.keys
  unfolding keys_offset keys_size asked_layout
  keys_given_lem p borrowed given returned post =
      let told = subst (λ (answer : Answer Layout). KeyBytes answer (left_by r before) borrowed given returned) (opens p) post in
      told.content ∙ ap (part 256 256) left_is ∙ parts.keys_part

  -- a part of zeros
  zeros : (offset size : ℕ) → part offset size (new_header (asked r) r.salt r.keys) ≡ replicate size 0 → all_zero (replicate size 0) ≡ true
      → AllZero (part offset size (left_by r before))
  zeros offset size e all = holds_true (all_zero_reflects (part offset size (left_by r before))) (ap all_zero (ap (part offset size) left_is ∙ e) ∙ all)

  unused_zero_lem : AllZero (part 76 16 (left_by r before)) × AllZero (part 132 120 (left_by r before))
  unfolding all_zero
  unused_zero_lem = (zeros 76 16 parts.reserved_part refl, zeros 132 120 parts.more_reserved_part refl)

pub vera_number : magic_number vera_letters ≡ 0
unfolding magic_number same_bytes
vera_number = refl

pub true_number : magic_number true_letters ≡ 1
unfolding magic_number same_bytes
true_number = refl

pub reads_back : (r : Request) (before : List ℕ) → ReadsBack r before
reads_back r before =
    record {
      vera_opens = λ done p letters. opens_as r before done 0 (ap magic_number letters ∙ vera_number) p;
      true_opens = λ done p letters. opens_as r before done 1 (ap magic_number letters ∙ true_number) p;
      keys_given = keys_given_lem r before;
      salt_first = λ done. ap (part 0 64) (left_is r before done) ∙ (parts r before done).salt_part;
      unused_zero = unused_zero_lem r before;
    }
