-- What two extents share is the least sector of both, and what of one lies past an end is told by the first such sector. Assumes nothing.
use Prim.Native.Nat.{ℕ, ◌+◌, ◌≤◌, ◌<◌}
use native.Mathlib.Omega.{arith}
use mathlib.Core.{Path.{◌≡◌, refl, sym, subst, ap, ◌∙◌}, Logic.{inl, inr, ⊎_elim}, Bool.{Bool, true, false, cond}}
use lib.Dec.{ltb}
use borrow.Author.Tests.{lt-leb, ltb-true, ltb-false}
use Rattle.extent.specs.Extents.{larger, overlap, beyond}
use Rattle.extent.specs.declared.Extent.{Extent}
use Rattle.extent.proofs.OverlapLaws.{In, Shared, none, least, overlap_shared, beyond_apart, apart_beyond}
use Rattle.access_claims.specs.{Extents.{Within, SharesLeast, IsFirstPast, EndsBy}, InTheWay.IsLarger}
use Rattle.header_claims.proofs.Reflects.{Reflects, holds, fails, reflects_eqb}
use Rattle.std.specs.Prelude.{Some, None, Option}

pub within : (extent : Extent) (sector : ℕ) → In extent sector → Within extent sector
within extent sector i = record { starts = i.starts; ends = i.ends }

pub inside : (extent : Extent) (sector : ℕ) → Within extent sector → In extent sector
inside extent sector w = record { starts = w.starts; ends = w.ends }

module _ (a b : Extent) where
  -- a sector of both, and none before it
  abbrev Least : ℕ → Type 0
  Least sector = Within a sector × Within b sector × ((other : ℕ) → Within a other → Within b other → sector ≤ other)

  shared_least : (sector : ℕ) → Shared a b (Some sector) → Least sector
  shared_least sector (least _ p q l) = (within a sector p, within b sector q, λ other v w. l other (inside a other v) (inside b other w))

  shared_apart : Shared a b None → (sector : ℕ) → Within a sector → Within b sector → ⊥
  shared_apart (none f) sector v w = f sector (inside a sector v) (inside b sector w)

  least_shared : (told : Option ℕ) → Shared a b told → (sector : ℕ) → Least sector → told ≡ Some sector
  least_shared None (none f) sector l = absurd (f sector (inside a sector l.0) (inside b sector l.1))
  least_shared (Some first) (least _ p q k) sector l =
      let same : first ≡ sector =
      omega (arith, k sector (inside a sector l.0) (inside b sector l.1), l.2 first (within a first p) (within b first q)) in
      ap Some same

  apart_shared : (told : Option ℕ) → Shared a b told → ((sector : ℕ) → Within a sector → Within b sector → ⊥) → told ≡ None
  apart_shared None s f = refl
  apart_shared (Some first) (least _ p q k) f = absurd (f first (within a first p) (within b first q))

  pub shares_least : SharesLeast a b
  shares_least =
      let s = overlap_shared a b in
      record {
        least = λ sector. (λ e. shared_least sector (subst (Shared a b) e s), least_shared (overlap a b) s sector);
        apart = (λ e. shared_apart (subst (Shared a b) e s), apart_shared (overlap a b) s);
      }

pub larger_is : (a b : ℕ) → IsLarger (larger a b) a b
unfolding larger
larger_is a b = go (ltb a b) refl
  where
    go : (t : Bool) → ltb a b ≡ t → IsLarger (cond t b a) a b
    go true e = record { at_least_first = omega (arith, ltb-true a b e); at_least_second = omega arith; one_of_them = inr refl }
    go false e = record { at_least_first = omega arith; at_least_second = omega (arith, ltb-false a b e); one_of_them = inl refl }

-- the sector that is told
told : Option ℕ → ℕ
told None = 0
told (Some sector) = sector

from_injective : {a b : ℕ} → Some a ≡ Some b → a ≡ b
unfolding told
from_injective e = ap told e

module _ (extent : Extent) (end : ℕ) where
  -- what is told where the extent goes past the end
  told_past : end < extent.first + extent.count → beyond extent end ≡ Some (larger extent.first end)
  unfolding beyond
  told_past past = simp (lt-leb (extent.first + extent.count) end past)

  first_past : end < extent.first + extent.count → IsFirstPast extent end (larger extent.first end)
  first_past past =
      let is_larger = larger_is extent.first end in
      record {
        past = is_larger.at_least_second;
        within = λ some. record { starts = is_larger.at_least_first; ends = ⊎_elim (λ e. omega arith) (λ e. omega arith) is_larger.one_of_them };
        least = λ other w h. ⊎_elim (λ e. omega (arith, w.starts)) (λ e. omega arith) is_larger.one_of_them;
        empty = λ none. ⊎_elim (λ e. e) (λ e. omega (arith, is_larger.at_least_first)) is_larger.one_of_them;
      }

  -- there is one such sector
  one_past : (a b : ℕ) → end < extent.first + extent.count → IsFirstPast extent end a → IsFirstPast extent end b → a ≡ b
  one_past a b past p q = go (reflects_eqb extent.count 0)
    where
      go : {t : Bool} → Reflects (extent.count ≡ 0) t → a ≡ b
      go (holds e) = p.empty e ∙ sym (q.empty e)
      go (fails f) =
          let some : 0 < extent.count = omega arith in
          omega (arith, p.least b (q.within some) q.past, q.least a (p.within some) p.past)

  pub ends_by : EndsBy extent end
  ends_by =
      record {
        inside = (beyond_apart extent end, apart_beyond extent end);
        past = λ past sector. (
          λ e. subst (IsFirstPast extent end) (from_injective (sym (told_past past) ∙ e)) (first_past past),
          λ f. told_past past ∙ ap Some (one_past (larger extent.first end) sector past (first_past past) f),
        );
      }
