-- A walk over an extent's sectors: what it finds, and that the first sector which the map refuses 16 is the larger of the extent's first one
-- and the volume's end.
-- Assumes nothing.
use Prim.Native.Nat.{ℕ, zero, suc, ◌+◌, ◌/◌, ◌≤◌, ◌<◌}
use native.Mathlib.Omega.{arith}
use mathlib.Core.{Path.{◌≡◌, refl, sym, ap, subst, ◌∙◌}, Bool.{Bool, true, false, cond, true≢false}}
use lib.Dec.{leb, ltb}
use borrow.Author.Tests.{leb-true, leb-false, ltb-true, ltb-false}
use Rattle.extent.specs.Extents.{larger, beyond}
use Rattle.judgement.specs.Judging.{blocked_by, end_answer}
use Rattle.layout.specs.declared.Layout.{Layout}
use Rattle.sector_map.specs.SectorMap.{sectors, host_sector}
use Rattle.header_claims.specs.SectorMap.{Sound}
use Rattle.access_claims.specs.Table.{first_of, found_or, is_past, first_past, check}
use Rattle.header_claims.proofs.MapLaws.{Answers, answers_number, answers16, host_sector_answers}
use Rattle.header_claims.proofs.Reflects.{Reflects, holds, fails, is_true, holds_true, reflects_eqb}
use Rattle.std.specs.Prelude.{Some, None, Option, ⊤}
use Rattle.answers.specs.Answers.{Answer, refuse_at}

-- a test that is false refutes what it reflects
pub refutes : {P : Type 0} {b : Bool} → Reflects P b → b ≡ false → P → ⊥
refutes r e p = true≢false (sym (is_true r p) ∙ e)

-- what holds of a number, and of all later ones
from_first : (P : ℕ → Type 0) (first : ℕ) → P first → ((user : ℕ) → suc first ≤ user → P user) → (user : ℕ) → first ≤ user → P user
from_first P first p later user h = go (reflects_eqb first user)
  where
    go : {b : Bool} → Reflects (first ≡ user) b → P user
    go (holds e) = subst P e p
    go (fails f) = later user (omega arith)

-- what a walk has found
pub data Walked (found : ℕ → Bool) (first count : ℕ) : Option ℕ → Type 0 where
  none_found : ((user : ℕ) → first ≤ user → user < first + count → found user ≡ false) → Walked found first count None
  found_at : (sector : ℕ) → first ≤ sector → sector < first + count → found sector ≡ true
      → ((user : ℕ) → first ≤ user → user < sector → found user ≡ false) → Walked found first count (Some sector)

pub first_of_walked : (found : ℕ → Bool) (first count : ℕ) → Walked found first count (first_of found first count)
unfolding first_of
first_of_walked found first zero = none_found (λ user h k. absurd (omega arith))
first_of_walked found first (suc count) = go (found first) refl (first_of_walked found (suc first) count)
  where
    go : (t : Bool) → found first ≡ t → {rest : Option ℕ} → Walked found (suc first) count rest
        → Walked found first (suc count) (cond t (Some first) rest)
    go true e w = found_at first (omega arith) (omega arith) e (λ user h k. absurd (omega arith))
    go false e (none_found f) =
        none_found (from_first (λ user. user < first + suc count → found user ≡ false) first (λ k. e) (λ user h k. f user h (omega arith)))
    go false e (found_at sector h k t f) =
        found_at sector (omega arith) (omega arith) t
        (from_first (λ user. user < sector → found user ≡ false) first (λ k. e) (λ user h k. f user h k))

module _ (layout : Layout) (s : Sound layout) where
  -- the map refuses 16 from the volume's end on
  past_reflects : (user : ℕ) → Reflects (sectors layout ≤ user) (is_past (host_sector layout user))
  unfolding is_past sectors
  past_reflects user = go (host_sector_answers layout s user)
    where
      go : {n : ℕ} {m : Answer ℕ} → Answers (user < layout.data_size / 512) n m → Reflects (layout.data_size / 512 ≤ user) (is_past m)
      go (answers_number p) = fails (λ h. omega arith)
      go (answers16 f) = holds (omega arith)

  first_past_larger : (first count : ℕ) → sectors layout < first + count → larger first (sectors layout) ≡ first_past layout first count
  unfolding larger first_past found_or
  first_past_larger first count past =
      go (ltb first (sectors layout)) refl (first_of_walked (λ user. is_past (host_sector layout user)) first count)
    where
      go : (t : Bool) → ltb first (sectors layout) ≡ t → {naming : Option ℕ} → Walked (λ user. is_past (host_sector layout user)) first count naming
          → cond t (sectors layout) first ≡ found_or first naming
      go true e (none_found f) =
          let starts = ltb-true first (sectors layout) e in
          absurd (refutes (past_reflects (sectors layout)) (f (sectors layout) (omega arith) past) (omega arith))
      go false e (none_found f) = refl
      go true e (found_at sector h k t f) =
          let starts = ltb-true first (sectors layout) e in
          let ends = holds_true (past_reflects sector) t in
          let none : sectors layout < sector → ⊥ = λ before. refutes (past_reflects (sectors layout)) (f (sectors layout) (omega arith) before) (omega arith) in
          omega arith
      go false e (found_at sector h k t f) =
          let starts = ltb-false first (sectors layout) e in
          let none : first < sector → ⊥ = λ before. refutes (past_reflects first) (f first (omega arith) before) (omega arith) in
          omega arith

  -- so the last check of every call is the table's, and the later ones matter only for an extent that is inside
  pub end_tabled : (first count : ℕ) (rest other : Answer ⊤) → (first + count ≤ sectors layout → rest ≡ other)
      → end_answer layout first count rest ≡ check (refuse_at 16 (first_past layout first count)) (leb (first + count) (sectors layout)) other
  unfolding end_answer beyond blocked_by
  end_tabled first count rest other same = go (leb (first + count) (sectors layout)) refl
    where
      go : (t : Bool) → leb (first + count) (sectors layout) ≡ t
          → blocked_by 16 (cond t None (Some (larger first (sectors layout)))) rest ≡ cond t other (refuse_at 16 (first_past layout first count))
      go true e = same (leb-true (first + count) (sectors layout) e)
      go false e = ap (λ (sector : ℕ). refuse_at 16 sector) (first_past_larger first count (leb-false (first + count) (sectors layout) e))
