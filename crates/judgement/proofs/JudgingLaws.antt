-- What an acceptance says of a call, and how the later checks of a write join those of every call.
-- Assumes nothing.
use Prim.Native.Nat.{ℕ, ◌+◌, ◌*◌, ◌≤◌}
use native.Mathlib.Omega.{arith}
use mathlib.Core.{Path.{◌≡◌, refl, sym, ap, ◌∙◌}, Bool.{Bool, true, false, true≢false, not, ◌||◌}}
use lib.Dec.{leb, eqb}
use borrow.Author.Tests.{leb-true, eqb-true, le-leb, eq-eqb, ne_eqb}
use Rattle.answers.specs.Answers.{line, is_accepted, Answer, refuse, refuse_at}
use Rattle.answers.proofs.AnswerLaws.{unaccepted, refused_accepted, line_accepted, line_holds}
use Rattle.extent.specs.Extents.{overlap, beyond}
use Rattle.extent.proofs.OverlapLaws.{beyond_apart, apart_beyond}
use Rattle.layout.specs.{Rules.{sector_bytes, sound}, declared.Layout.Layout}
use Rattle.layout.proofs.RuleLaws.{and_true_left, sound_ends}
use Rattle.protection.specs.Protection.{protection_rule, sound_protection, protected_extent}
use Rattle.sector_map.specs.SectorMap.{sectors}
use Rattle.judgement.specs.Judging.{max_count, alignment_rule, blocked_by, end_answer, checked, lock_answer, read_answer, write_answer}
use Rattle.judgement.specs.Offsets.{extent_start}
use Rattle.std.specs.Prelude.{Ok, Some, None, Option, ⊤}
use Rattle.protection.specs.Protection.{Protection}

-- a check of an extent, by what was found in its way
module _ (number : ℕ) (later : Answer ⊤) {found way : Option ℕ} (finds : found ≡ way) where
  pub blocked_apart : found ≡ None → later ≡ blocked_by number way later
  unfolding blocked_by
  blocked_apart e = rw (← finds, e)

  pub blocked_from : {sector : ℕ} → found ≡ Some sector → refuse_at number sector ≡ blocked_by number way later
  unfolding blocked_by
  blocked_from e = rw (← finds, e)

-- what an acceptance says of such a check
pub blocked_accepted : (number : ℕ) (way : Option ℕ) (later : Answer ⊤) → blocked_by number way later ≡ Ok tt → (way ≡ None) × (later ≡ Ok tt)
unfolding blocked_by
blocked_accepted number None later e = (refl, e)
blocked_accepted number (Some sector) later e = refused_accepted _ e

-- past an open lock the later check decides
pub unlocked : {answer later : Answer ⊤} (locked : Bool) → locked ≡ false → answer ≡ later → answer ≡ line (refuse 17) (not locked) later
unlocked locked e same = rw (e, same)

-- a refusal by the checks of every call does not depend on the later ones
refused_alike : (a b c d e : Bool) (way : Option ℕ) (later answer : Answer ⊤) → is_accepted answer ≡ false
    → line (refuse 11) a (line (refuse 13) b (line (refuse 14) c (line (refuse 15) d (line (refuse 20) e (blocked_by 16 way (Ok tt)))))) ≡ answer
    → line (refuse 11) a (line (refuse 13) b (line (refuse 14) c (line (refuse 15) d (line (refuse 20) e (blocked_by 16 way later))))) ≡ answer
unfolding blocked_by
refused_alike false b c d e way later answer f h = h
refused_alike true false c d e way later answer f h = h
refused_alike true true false d e way later answer f h = h
refused_alike true true true false e way later answer f h = h
refused_alike true true true true false way later answer f h = h
refused_alike true true true true true (Some sector) later answer f h = h
refused_alike true true true true true None later answer f h = unaccepted f (sym h)

module _ (layout : Layout) (protection : Protection) (image_size first count buffer_size : ℕ) where
  -- every check is passed
  pub record Passed : Type 0 where
    pub soundness : sound_protection layout protection ≡ true
    pub image_whole : image_size ≡ layout.host_size
    pub few : count ≤ max_count
    pub buffer_whole : buffer_size ≡ count * sector_bytes
    pub aligned : alignment_rule layout first count ≡ true
    pub inside : first + count ≤ sectors layout

  pub checked_accepted : (later : Answer ⊤) → checked layout protection image_size first count buffer_size later ≡ Ok tt → Passed × (later ≡ Ok tt)
  unfolding checked end_answer
  checked_accepted later e =
      let p11 = line_accepted 11 (sound_protection layout protection) _ e in
      let p13 = line_accepted 13 (eqb image_size layout.host_size) _ p11.1 in
      let p14 = line_accepted 14 (leb count max_count) _ p13.1 in
      let p15 = line_accepted 15 (eqb buffer_size (count * sector_bytes)) _ p14.1 in
      let p20 = line_accepted 20 (alignment_rule layout first count) _ p15.1 in
      let p16 = blocked_accepted 16 _ later p20.1 in (
        record {
          soundness = p11.0;
          image_whole = eqb-true image_size layout.host_size p13.0;
          few = leb-true count max_count p14.0;
          buffer_whole = eqb-true buffer_size (count * sector_bytes) p15.0;
          aligned = p20.0;
          inside = beyond_apart (record { first = first; count = count }) (sectors layout) p16.0;
        },
        p16.1,
      )

  pub read_passed : {answer : Answer ⊤} → answer ≡ read_answer layout protection image_size first count buffer_size → answer ≡ Ok tt → Passed
  unfolding read_answer
  read_passed judged e = (checked_accepted (Ok tt) (sym judged ∙ e)).0

  pub write_passed : {answer : Answer ⊤} (locked : Bool) → answer ≡ write_answer layout protection locked image_size first count buffer_size
      → answer ≡ Ok tt → Passed
  unfolding write_answer
  write_passed locked judged e = (checked_accepted (lock_answer layout protection locked first count) (sym judged ∙ e)).0

  pub passed_layout : Passed → sound layout ≡ true
  unfolding sound_protection
  passed_layout p = and_true_left (sound layout) (protection_rule layout protection) p.soundness

  -- the extent starts in a sound layout
  pub passed_starts : Passed → (sound layout ≡ true) × (first ≤ sectors layout)
  passed_starts p = (passed_layout p, omega (arith, p.inside))

  -- what the moving of bytes asks for: they lie in the image
  pub passed_ends : Passed → extent_start layout first + buffer_size ≤ image_size
  unfolding extent_start sectors
  passed_ends p = omega (arith, sound_ends layout (passed_layout p), p.image_whole, p.buffer_whole, p.inside)

  -- past the checks of every call, the later ones decide
  pub checked_passed : Passed → (later : Answer ⊤) → later ≡ checked layout protection image_size first count buffer_size later
  unfolding checked end_answer blocked_by
  checked_passed p later =
      sym (simp (
        p.soundness,
        eq-eqb _ _ p.image_whole,
        le-leb _ _ p.few,
        eq-eqb _ _ p.buffer_whole,
        p.aligned,
        apart_beyond (record { first = first; count = count }) (sectors layout) p.inside,
      ))

  -- and a refusal among them is that of a read
  pub checked_refused : {answer given : Answer ⊤} (later : Answer ⊤) → answer ≡ read_answer layout protection image_size first count buffer_size
      → answer ≡ given → is_accepted given ≡ false → answer ≡ checked layout protection image_size first count buffer_size later
  unfolding read_answer checked end_answer
  checked_refused later judged e f =
      e ∙ sym (refused_alike (sound_protection layout protection) (eqb image_size layout.host_size) (leb count max_count)
      (eqb buffer_size (count * sector_bytes)) (alignment_rule layout first count) (beyond (record { first = first; count = count }) (sectors layout)) later _ f (sym judged ∙ e))

-- the refusals that name a sector
abbrev pub names_sector : ℕ → Bool
names_sector number = eqb number 16 || eqb number 18

-- none of them is 0
pub names_some : (number : ℕ) → names_sector number ≡ true → eqb number 0 ≡ false
names_some number names = ne_eqb number 0 (λ e. true≢false (sym names ∙ ap names_sector e))

-- what holds of the other refusals, none of which is 0, and of the answer to a check that may name a sector, holds of all in order
module _ (P : Answer ⊤ → Type 0) (refused : (number : ℕ) → eqb number 0 ≡ false → names_sector number ≡ false → P (refuse number))
    (layout : Layout) (protection : Protection) (first count : ℕ) where
  pub checked_by : (image_size buffer_size : ℕ) (later : Answer ⊤) → P (end_answer layout first count later)
      → P (checked layout protection image_size first count buffer_size later)
  unfolding checked
  checked_by image_size buffer_size later p =
      line_holds P _ (sound_protection layout protection) _ (refused 11 refl refl)
      (line_holds P _ (eqb image_size layout.host_size) _ (refused 13 refl refl)
      (line_holds P _ (leb count max_count) _ (refused 14 refl refl)
      (line_holds P _ (eqb buffer_size (count * sector_bytes)) _ (refused 15 refl refl)
      (line_holds P _ (alignment_rule layout first count) _ (refused 20 refl refl) p))))

  pub lock_by : (locked : Bool) → P (blocked_by 18 (overlap (record { first = first; count = count }) (protected_extent layout protection)) (Ok tt))
      → P (lock_answer layout protection locked first count)
  unfolding lock_answer
  lock_by locked p = line_holds P _ (not locked) _ (refused 17 refl refl) p

-- 16 and 18 name a sector, and no other refusal does: what holds of such answers holds of every one
module _ (P : Answer ⊤ → Type 0) (accepted : P (Ok tt)) (refused : (number : ℕ) → eqb number 0 ≡ false → names_sector number ≡ false → P (refuse number))
    (refused_at : (number sector : ℕ) → names_sector number ≡ true → P (refuse_at number sector))
    (layout : Layout) (protection : Protection) (image_size first count buffer_size : ℕ) where
  blocked_holds : (number : ℕ) (way : Option ℕ) (later : Answer ⊤) → names_sector number ≡ true → P later → P (blocked_by number way later)
  unfolding blocked_by
  blocked_holds number None later e p = p
  blocked_holds number (Some sector) later e p = refused_at number sector e

  checked_holds : (later : Answer ⊤) → P later → P (checked layout protection image_size first count buffer_size later)
  unfolding end_answer
  checked_holds later p = checked_by P refused layout protection first count image_size buffer_size later (blocked_holds 16 _ later refl p)

  pub read_holds : P (read_answer layout protection image_size first count buffer_size)
  unfolding read_answer
  read_holds = checked_holds (Ok tt) accepted

  pub write_holds : (locked : Bool) → P (write_answer layout protection locked image_size first count buffer_size)
  unfolding write_answer
  write_holds locked =
      checked_holds _ (lock_by P refused layout protection first count locked (blocked_holds 18 _ (Ok tt) refl accepted))
