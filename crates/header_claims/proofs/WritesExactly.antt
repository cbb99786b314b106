-- A header is written exactly when every check is passed, and else the first that is not gives the refusal, which writes nothing.
-- Assumes nothing.
use Prim.Native.Nat.{ℕ, zero, suc, ◌<◌}
use native.Mathlib.Omega.{arith}
use mathlib.Core.{Path.{◌≡◌, refl, sym, ap, subst, ◌∙◌}, Logic.{◌⊎◌, inl, inr}, Bool.Bool, List.List}
use lib.ListN.{length}
use Rattle.header_writing.specs.HeaderWriting.{header_answer, header_left}
use Rattle.header_writing.proofs.AnswerLaws.{Passed, done_passed}
use Rattle.header_claims.specs.Writing.{Request, answer_to, left_by, Check, place, refusal_of, Passes, FirstFailed, WritesExactly}
use Rattle.header_claims.specs.Writing.{right_lengths, known_magic, known_code, allowed_host, supported_version, allowed_sectors, allowed_area}
use Rattle.header_claims.proofs.Reflects.{Reflects, holds, fails, is_true, is_false, holds_true, below_suc}
use Rattle.header_claims.proofs.WritingLaws.{asked, lengths_pass, magic_passes, code_passes, host_passes, version_passes, sectors_pass}
use Rattle.header_claims.proofs.WritingLaws.{area_passes}
use Rattle.std.specs.Prelude.{Ok, Err, ⊤, Result}
use Rattle.answers.specs.Answers.{Answer, refuse}
use Rattle.answers.specs.declared.Refusal.{Refusal}

-- the check at a place; no two have one place
abbrev check_at : ℕ → Check
check_at zero = right_lengths
check_at (suc zero) = known_magic
check_at (suc (suc zero)) = known_code
check_at (suc (suc (suc zero))) = allowed_host
check_at (suc (suc (suc (suc zero)))) = supported_version
check_at (suc (suc (suc (suc (suc zero))))) = allowed_sectors
check_at (suc (suc (suc (suc (suc (suc n)))))) = allowed_area

check_at_place : (check : Check) → check_at (place check) ≡ check
unfolding place
check_at_place right_lengths = refl
check_at_place known_magic = refl
check_at_place known_code = refl
check_at_place allowed_host = refl
check_at_place supported_version = refl
check_at_place allowed_sectors = refl
check_at_place allowed_area = refl

place_injective : (a b : Check) → place a ≡ place b → a ≡ b
place_injective a b e = sym (check_at_place a) ∙ ap check_at e ∙ check_at_place b

place-bound : (check : Check) → place check < 7
unfolding place
place-bound right_lengths = omega arith
place-bound known_magic = omega arith
place-bound known_code = omega arith
place-bound allowed_host = omega arith
place-bound supported_version = omega arith
place-bound allowed_sectors = omega arith
place-bound allowed_area = omega arith

module _ (r : Request) (before : List ℕ) where
  abbrev size : ℕ
  size = length before

  writes : ((check : Check) → Passes check r size) → answer_to r before ≡ Ok tt
  unfolding header_answer
  writes all =
      simp (
        is_true (lengths_pass r size) (all right_lengths),
        is_true (magic_passes r size) (all known_magic),
        is_true (code_passes r size) (all known_code),
        is_true (host_passes r size) (all allowed_host),
        is_true (version_passes r size (all known_magic)) (all supported_version),
        is_true (sectors_pass r size) (all allowed_sectors),
        is_true (area_passes r size (all known_code) (all allowed_sectors)) (all allowed_area),
      )

  passed : answer_to r before ≡ Ok tt → Passed r.code (asked r) (length r.salt) (length r.keys) size
  passed e = done_passed r.code (asked r) (length r.salt) (length r.keys) size e

  only_writes_lem : answer_to r before ≡ Ok tt → (check : Check) → Passes check r size
  only_writes_lem e right_lengths = holds_true (lengths_pass r size) (passed e).lengths
  only_writes_lem e known_magic = holds_true (magic_passes r size) (passed e).known_magic
  only_writes_lem e known_code = holds_true (code_passes r size) (passed e).known_code
  only_writes_lem e allowed_host = holds_true (host_passes r size) (passed e).host
  only_writes_lem e supported_version = holds_true (version_passes r size (holds_true (magic_passes r size) (passed e).known_magic)) (passed e).supported
  only_writes_lem e allowed_sectors = holds_true (sectors_pass r size) (passed e).sectors
  only_writes_lem e allowed_area =
      holds_true (area_passes r size (holds_true (code_passes r size) (passed e).known_code) (holds_true (sectors_pass r size) (passed e).sectors))
      (passed e).area

  refuses : (check : Check) → FirstFailed check r size → answer_to r before ≡ refuse (refusal_of check)
  unfolding header_answer place refusal_of
  refuses right_lengths f = simp (is_false (lengths_pass r size) f.failed)
  refuses known_magic f = simp (is_true (lengths_pass r size) (f.earlier right_lengths (omega arith)), is_false (magic_passes r size) f.failed)
  refuses known_code f =
      simp (
        is_true (lengths_pass r size) (f.earlier right_lengths (omega arith)),
        is_true (magic_passes r size) (f.earlier known_magic (omega arith)),
        is_false (code_passes r size) f.failed,
      )
  refuses allowed_host f =
      simp (
        is_true (lengths_pass r size) (f.earlier right_lengths (omega arith)),
        is_true (magic_passes r size) (f.earlier known_magic (omega arith)),
        is_true (code_passes r size) (f.earlier known_code (omega arith)),
        is_false (host_passes r size) f.failed,
      )
  refuses supported_version f =
      simp (
        is_true (lengths_pass r size) (f.earlier right_lengths (omega arith)),
        is_true (magic_passes r size) (f.earlier known_magic (omega arith)),
        is_true (code_passes r size) (f.earlier known_code (omega arith)),
        is_true (host_passes r size) (f.earlier allowed_host (omega arith)),
        is_false (version_passes r size (f.earlier known_magic (omega arith))) f.failed,
      )
  refuses allowed_sectors f =
      simp (
        is_true (lengths_pass r size) (f.earlier right_lengths (omega arith)),
        is_true (magic_passes r size) (f.earlier known_magic (omega arith)),
        is_true (code_passes r size) (f.earlier known_code (omega arith)),
        is_true (host_passes r size) (f.earlier allowed_host (omega arith)),
        is_true (version_passes r size (f.earlier known_magic (omega arith))) (f.earlier supported_version (omega arith)),
        is_false (sectors_pass r size) f.failed,
      )
  refuses allowed_area f =
      simp (
        is_true (lengths_pass r size) (f.earlier right_lengths (omega arith)),
        is_true (magic_passes r size) (f.earlier known_magic (omega arith)),
        is_true (code_passes r size) (f.earlier known_code (omega arith)),
        is_true (host_passes r size) (f.earlier allowed_host (omega arith)),
        is_true (version_passes r size (f.earlier known_magic (omega arith))) (f.earlier supported_version (omega arith)),
        is_true (sectors_pass r size) (f.earlier allowed_sectors (omega arith)),
        is_false (area_passes r size (f.earlier known_code (omega arith)) (f.earlier allowed_sectors (omega arith))) f.failed,
      )

  unchanged : (refusal : Refusal) → answer_to r before ≡ Err refusal → left_by r before ≡ before
  unfolding header_left
  unchanged refusal e = ap (λ (answer : Answer ⊤). header_left answer (asked r) r.salt r.keys before) e

  -- the check at a place is passed
  abbrev PassesAt : ℕ → Type 0
  PassesAt n = (check : Check) → place check ≡ n → Passes check r size

  -- a check fails first, or those up to it are passed
  check_says : {Result : Type 0} (check : Check) {b : Bool} → Reflects (Passes check r size) b → ((j : ℕ) → j < place check → PassesAt j)
      → (FirstFailed check r size → Result) → (((j : ℕ) → j < suc (place check) → PassesAt j) → Result) → Result
  check_says check (fails f) below stop next = stop (record { failed = f; earlier = λ other lt. below (place other) lt other refl })
  check_says check (holds p) below stop next =
      next (below_suc PassesAt (place check) below (λ other e. subst (λ (c : Check). Passes c r size) (sym (place_injective other check e)) p))

  one_holds_lem : ((check : Check) → Passes check r size) ⊎ ((check : Check) × FirstFailed check r size)
  unfolding place
  one_holds_lem =
      check_says right_lengths (lengths_pass r size) (λ j lt. absurd (omega arith)) (λ f. inr (right_lengths, f)) λ to1.
      check_says known_magic (magic_passes r size) to1 (λ f. inr (known_magic, f)) λ to2.
      check_says known_code (code_passes r size) to2 (λ f. inr (known_code, f)) λ to3.
      check_says allowed_host (host_passes r size) to3 (λ f. inr (allowed_host, f)) λ to4.
      check_says supported_version (version_passes r size (to2 1 (omega arith) known_magic refl)) to4 (λ f. inr (supported_version, f)) λ to5.
      check_says allowed_sectors (sectors_pass r size) to5 (λ f. inr (allowed_sectors, f)) λ to6.
      check_says allowed_area (area_passes r size (to3 2 (omega arith) known_code refl) (to6 5 (omega arith) allowed_sectors refl)) to6 (λ f. inr (allowed_area, f)) λ to7.
      inl (λ check. to7 (place check) (place-bound check) check refl)

  pub writes_exactly : WritesExactly r before
  writes_exactly = record { writes = writes; only_writes = only_writes_lem; refuses = refuses; one_holds = one_holds_lem; unchanged = unchanged }
