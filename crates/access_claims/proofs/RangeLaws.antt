-- What an extent shares with the protected sectors is the first of its sectors whose host sector lies in the protected range.
-- Assumes nothing.
use Prim.Native.Nat.{ℕ, zero, suc, ◌+◌, ◌-◌, ◌*◌, ◌/◌, ◌≤◌, ◌<◌}
use native.Mathlib.Omega.{arith}
use mathlib.Core.{Path.{◌≡◌, refl, ap}, Bool.{Bool, true, false, not, cond, true≢false}, List.List}
use Rattle.extent.specs.declared.Extent.{Extent}
use Rattle.extent.proofs.OverlapLaws.{In, Shared, none, least, overlap_shared}
use Rattle.judgement.specs.Judging.{blocked_by, lock_answer}
use Rattle.layout.specs.declared.Layout.{Layout}
use Rattle.sector_map.specs.SectorMap.{sectors, host_sector}
use Rattle.protection.specs.Protection.{protected_extent}
use Rattle.model.proofs.Lawful.{Every}
use Rattle.access_claims.specs.ReferenceModel.{in_range, is_protected, first_protected}
use Rattle.header_claims.specs.SectorMap.{Sound}
use Rattle.access_claims.specs.{Table.{writes, first_of, check, unless_at, later, with_host, covers}, Views.SoundRange}
use Rattle.header_claims.proofs.MapLaws.{number_says, is_number, host_sector_answers}
use Rattle.header_claims.proofs.Reflects.{Reflects, fails, holds_true, reflects_map, reflects_and, reflects_leb}
use Rattle.header_claims.proofs.SoundLaws.{sound_on_sectors}
use Rattle.access_claims.proofs.WalkLaws.{refutes, Walked, none_found, found_at, first_of_walked}
use Rattle.std.specs.Prelude.{Ok, Err, Some, None, Option, ⊤}
use Rattle.answers.specs.Answers.{Answer, refuse, refuse_at}
use Rattle.protection.specs.Protection.{Protection}

is_named : Option ℕ → Bool
is_named None = false
is_named (Some sector) = true

named_unnamed : {A : Type 0} (sector : ℕ) → Some sector ≡ None → A
unfolding is_named
named_unnamed sector e = absurd (true≢false (ap is_named e))

-- where the walk finds no protected sector, no host sector of the extent lies in the range
pub each_outside : (layout : Layout) (protection : Protection) (first count : ℕ) → first_protected layout protection first count ≡ None
    → Every (λ host. in_range protection host ≡ false) (covers layout first count)
unfolding first_protected first_of covers is_protected with_host
each_outside layout protection first zero e = tt
each_outside layout protection first (suc count) e = go (host_sector layout first) _ _ e (each_outside layout protection (suc first) count)
  where
    test : (t : Bool) (rest : Option ℕ) → cond t (Some first) rest ≡ None → (t ≡ false) × (rest ≡ None)
    test true rest f = named_unnamed first f
    test false rest f = (refl, f)

    go : (mapped : Answer ℕ) (rest : Option ℕ) (hosts : List ℕ) → cond (is_protected protection mapped) (Some first) rest ≡ None
        → (rest ≡ None → Every (λ host. in_range protection host ≡ false) hosts)
        → Every (λ host. in_range protection host ≡ false) (with_host mapped hosts)
    go (Ok host) rest hosts f others = let both = test (in_range protection host) rest f in (both.0, others both.1)
    go (Err refusal) rest hosts f others = others f

-- a host sector lies in the range exactly where its user sector is one of the range's
pub sector_reflects : (layout : Layout) (protection : Protection) (s : Sound layout) → SoundRange layout protection → (user host : ℕ)
    → host_sector layout user ≡ Ok host → Reflects (In (protected_extent layout protection) user) (in_range protection host)
unfolding SoundRange protected_extent in_range
sector_reflects layout None s r user host e = fails (λ w. omega (arith, w.ends))
sector_reflects layout (Some (first, end)) s r user host e =
    let told = number_says (host_sector_answers layout s user) e in
    let o = layout.data_start / 512 in
    let start = (first - layout.data_start) / 512 in
    let count = (end - first) / 512 in
    let starts : first ≡ (o + start) * 512 = omega (arith, sound_on_sectors layout s, r.first_multiple, r.starts) in
    let ends : end ≡ (o + start + count) * 512 = omega (arith, starts, r.first_multiple, r.end_multiple, r.not_empty) in
    reflects_map (λ p. record { starts = omega (arith, p.0, starts, told); ends = omega (arith, p.1, ends, told) })
    (λ w. (omega (arith, w.starts, starts, told), omega (arith, w.ends, ends, told)))
    (reflects_and (reflects_leb first (host * 512)) (reflects_leb (suc (host * 512)) end))

-- the least sector of two extents is the first of the one that a walk finds in the other
by_walk : {found : ℕ → Bool} {a b : Extent} {shared : Option ℕ} {naming : Option ℕ} → Shared a b shared → Walked found a.first a.count naming
    → ((user : ℕ) → In a user → Reflects (In b user) (found user)) → blocked_by 18 shared (Ok tt) ≡ unless_at 18 naming
unfolding blocked_by unless_at
by_walk (none f) (none_found g) tells = refl
by_walk {a = a} (none f) (found_at sector h k t g) tells =
    let i : In a sector = record { starts = h; ends = k } in absurd (f sector i (holds_true (tells sector i) t))
by_walk (least sector i j l) (none_found g) tells = absurd (refutes (tells sector i) (g sector i.starts i.ends) j)
by_walk {a = a} (least sector i j l) (found_at other h k t g) tells =
    let o : In a other = record { starts = h; ends = k } in
    let before = l other o (holds_true (tells other o) t) in
    let none : sector < other → ⊥ = λ less. refutes (tells sector i) (g sector i.starts less) j in
    let same : sector ≡ other = omega arith in
    ap (λ (n : ℕ). refuse_at 18 n) same

module _ (layout : Layout) (s : Sound layout) (u n : ℕ) where
  -- the later checks of a write are the table's
  pub lock_range : (protection : Protection) (locked : Bool) → SoundRange layout protection → u + n ≤ sectors layout
      → lock_answer layout protection locked u n ≡ later writes locked (first_protected layout protection u n)
  unfolding lock_answer later first_protected is_protected sectors
  lock_range protection locked r inside =
      ap (λ (answer : Answer ⊤). check (refuse 17) (not locked) answer)
      (by_walk (overlap_shared (record { first = u; count = n }) (protected_extent layout protection))
      (first_of_walked (λ user. is_protected protection (host_sector layout user)) u n)
      (λ user i.
      let mapped = is_number (host_sector_answers layout s user) (omega (arith, i.ends, inside)) in
      rw mapped (sector_reflects layout protection s r user _ mapped)))
