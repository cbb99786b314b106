-- The number of an answer is 0 exactly where the answer is an acceptance: no call is refused by 0.
-- Assumes nothing.
use Prim.Native.Nat.{ℕ, ◌+◌, ◌<◌}
use native.Mathlib.Omega.{arith}
use mathlib.Core.{Path.{◌≡◌, refl, sym, ap, subst, ◌∙◌}, Logic.{◌↔◌, ⊎_elim}, Bool.{Bool, true, false, ◌&&◌, cond}, List.List}
use lib.{Dec.{leb, ltb, eqb}, ListN.length}
use borrow.Author.Tests.{eqb-false}
use Rattle.answers.specs.Answers.{line, Answer, refuse, refuse_at, refusal_number}
use Rattle.answers.proofs.AnswerLaws.{refused_accepted}
use Rattle.layout.specs.Rules.{host_size_rule, sound}
use Rattle.layout.specs.declared.Layout.{Layout}
use Rattle.locations.specs.Locations.{code_rule, located}
use Rattle.opening.specs.Opening.{searched, opened}
use Rattle.sector_map.specs.SectorMap.{sectors, first_sector, host_sector, user_sector}
use Rattle.judgement.proofs.JudgingLaws.{names_sector, names_some, read_holds, write_holds}
use Rattle.pairing.specs.Pairs.{nests, paired}
use Rattle.view.specs.{Outcomes.{view_read, view_write}, declared.View.View}
use Rattle.making.specs.Views.{made_by, plain_view, protected_view}
use Rattle.guarantees.specs.Boundary.{ZeroAccepts}
use Rattle.header_claims.specs.{Header.number, Opening.{Lengths, Codes, HostSize}, Writing.{Request, answer_to, Check, refusal_of}}
use Rattle.header_claims.specs.Writing.{right_lengths, known_magic, known_code, allowed_host, supported_version, allowed_sectors, allowed_area}
use Rattle.header_claims.proofs.Reflects.{Reflects, holds, fails}
use Rattle.header_claims.proofs.RuleReflections.{lengths_reflects, codes_reflects, host_size_reflects}
use Rattle.header_claims.proofs.JudgementLaws.{number_bounds}
use Rattle.header_claims.proofs.FirstAcceptedLaws.{Found, an_accepted, a_header, no_header, search_says}
use Rattle.header_claims.proofs.WritesExactly.{writes_exactly}
use Rattle.std.specs.Prelude.{Ok, ⊤}

-- answers of any kind whose acceptances have the number 0
module _ {A R : Type 0} {number : R → ℕ} {accepted : A → R} where
  zero_accepted : (value : A) → ((other : A) → number (accepted other) ≡ 0) → ZeroAccepts number accepted (accepted value)
  zero_accepted value zero = record { only = λ e. (value, refl); each = λ other e. zero value }

  zero_refused : (refused : R) → ((value : A) → number (accepted value) ≡ 0) → 0 < number refused → ZeroAccepts number accepted refused
  zero_refused refused zero positive = record { only = λ e. absurd (omega arith); each = λ value e. ap number e ∙ zero value }

  -- one test, and two in order
  zero_test : (test : Bool) (answer refused : R) → ((value : A) → number (accepted value) ≡ 0) → 0 < number refused
      → ZeroAccepts number accepted answer → ZeroAccepts number accepted (cond test answer refused)
  zero_test true answer refused zero positive a = a
  zero_test false answer refused zero positive a = zero_refused refused zero positive

  zero_tests : (first second : Bool) (value : A) (refused later : R) → ((other : A) → number (accepted other) ≡ 0) → 0 < number refused
      → 0 < number later → ZeroAccepts number accepted (cond first (cond second (accepted value) later) refused)
  zero_tests first second value refused later zero p q =
      zero_test first (cond second (accepted value) later) refused zero p (zero_test second (accepted value) later zero q (zero_accepted value zero))

pub located_zero : (code host_size : ℕ) → ZeroAccepts refusal_number Ok (located code host_size)
unfolding located refusal_number
located_zero code host_size = zero_tests (code_rule code) (host_size_rule host_size) _ _ _ (λ offset. refl) (omega arith) (omega arith)

pub host_sector_zero : (layout : Layout) (user : ℕ) → ZeroAccepts refusal_number Ok (host_sector layout user)
unfolding host_sector refusal_number
host_sector_zero layout user = zero_tests (sound layout) (ltb user (sectors layout)) _ _ _ (λ sector. refl) (omega arith) (omega arith)

pub user_sector_zero : (layout : Layout) (host : ℕ) → ZeroAccepts refusal_number Ok (user_sector layout host)
unfolding user_sector refusal_number
user_sector_zero layout host =
    zero_tests (sound layout) (leb (first_sector layout) host && ltb host (first_sector layout + sectors layout)) _ _ _ (λ sector. refl) (omega arith)
    (omega arith)

pub plain_view_zero : (layout : Layout) → ZeroAccepts refusal_number Ok (plain_view layout)
unfolding plain_view refusal_number
plain_view_zero layout = zero_test (sound layout) _ _ (λ view. refl) (omega arith) (zero_accepted _ (λ view. refl))

pub protected_view_zero : (outer hidden_layout : Layout) → ZeroAccepts refusal_number Ok (protected_view outer hidden_layout)
unfolding protected_view paired made_by refusal_number
protected_view_zero outer hidden_layout = go (sound outer && sound hidden_layout) (nests outer hidden_layout) _
  where
    go : (first second : Bool) (view : View)
        → ZeroAccepts refusal_number Ok (made_by (cond first (cond second (Ok tt) (refuse 12)) (refuse 11)) view)
    go true true view = zero_accepted _ (λ view. refl)
    go true false view = zero_refused _ (λ view. refl) (omega arith)
    go false second view = zero_refused _ (λ view. refl) (omega arith)

module _ (candidates codes : List ℕ) (host_size : ℕ) where
  -- what the search finds is never refused by 0: a line's number is at least 5
  found_zero : {answer : Answer Layout} → Found candidates codes host_size (length codes) answer → ZeroAccepts refusal_number Ok answer
  unfolding refusal_number
  found_zero (an_accepted i layout r told) = zero_accepted layout (λ other. refl)
  found_zero (a_header f i broken h) = zero_refused (refuse (number broken)) (λ other. refl) (omega (arith, number_bounds broken))
  found_zero (no_header f g) = zero_refused (refuse 4) (λ other. refl) (omega arith)

  opened_zero_by : {a b c : Bool} → Reflects (Lengths candidates codes) a → Reflects (Codes codes) b → Reflects (HostSize host_size) c
      → ZeroAccepts refusal_number Ok
      (line (refuse 1) a (line (refuse 2) b (line (refuse 3) c (searched candidates host_size codes))))
  unfolding refusal_number
  opened_zero_by (holds l) (holds k) (holds s) = found_zero (search_says candidates codes host_size (record { lengths = l; codes_known = k; size = s }))
  opened_zero_by (holds l) (holds k) (fails f) = zero_refused (refuse 3) (λ other. refl) (omega arith)
  opened_zero_by (holds l) (fails f) t = zero_refused (refuse 2) (λ other. refl) (omega arith)
  opened_zero_by (fails f) r t = zero_refused (refuse 1) (λ other. refl) (omega arith)

  pub opened_zero : ZeroAccepts refusal_number Ok (opened candidates codes host_size)
  unfolding opened
  opened_zero = opened_zero_by (lengths_reflects candidates codes) (codes_reflects codes) (host_size_reflects host_size)

-- an answer of the writer
abbrev ZeroWrites : Answer ⊤ → Type 0
ZeroWrites answer = (refusal_number answer ≡ 0) ↔ (answer ≡ Ok tt)

done_writes : ZeroWrites (Ok tt)
unfolding refusal_number
done_writes = (λ e. refl, λ e. refl)

refused_writes : (check : Check) → ZeroWrites (refuse (refusal_of check))
unfolding refusal_number refusal_of
refused_writes right_lengths = (λ e. absurd (omega arith), refused_accepted _)
refused_writes known_magic = (λ e. absurd (omega arith), refused_accepted _)
refused_writes known_code = (λ e. absurd (omega arith), refused_accepted _)
refused_writes allowed_host = (λ e. absurd (omega arith), refused_accepted _)
refused_writes supported_version = (λ e. absurd (omega arith), refused_accepted _)
refused_writes allowed_sectors = (λ e. absurd (omega arith), refused_accepted _)
refused_writes allowed_area = (λ e. absurd (omega arith), refused_accepted _)

pub header_zero : (request : Request) (before : List ℕ) → ZeroWrites (answer_to request before)
header_zero request before =
    let says = writes_exactly request before in
    ⊎_elim (λ all. subst ZeroWrites (sym (says.writes all)) done_writes)
    (λ first. subst ZeroWrites (sym (says.refuses first.0 first.1)) (refused_writes first.0)) says.one_holds

-- an answer to a read or a write
abbrev ZeroTells : Answer ⊤ → Type 0
ZeroTells answer = (refusal_number answer ≡ 0) ↔ (answer ≡ Ok tt)

accepted_tells : ZeroTells (Ok tt)
unfolding refusal_number
accepted_tells = (λ e. refl, λ e. refl)

refused_tells : (number : ℕ) → eqb number 0 ≡ false → names_sector number ≡ false → ZeroTells (refuse number)
unfolding refusal_number
refused_tells number some other = (λ e. absurd (eqb-false number 0 some e), refused_accepted _)

refused_at_tells : (number sector : ℕ) → names_sector number ≡ true → ZeroTells (refuse_at number sector)
unfolding refusal_number
refused_at_tells number sector names = (λ e. absurd (eqb-false number 0 (names_some number names) e), refused_accepted _)

pub read_zero : (view : View) (image_size first count buffer_size : ℕ) → ZeroTells (view_read view image_size first count buffer_size)
read_zero view = read_holds ZeroTells accepted_tells refused_tells refused_at_tells view.layout view.protection

pub write_zero : (view : View) (image_size first count buffer_size : ℕ) → ZeroTells (view_write view image_size first count buffer_size)
write_zero view image_size first count buffer_size =
    write_holds ZeroTells accepted_tells refused_tells refused_at_tells view.layout view.protection image_size first count buffer_size view.locked
