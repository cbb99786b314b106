-- What two extents share, and what of one lies past an end: the laws that crates above read an overlap by.
-- Assumes nothing.
use Prim.Native.Nat.{ℕ, ◌+◌, ◌-◌, ◌≤◌, ◌<◌, max}
use native.Mathlib.Omega.{arith}
use mathlib.Core.{Path.{◌≡◌, refl, sym, ap}, Bool.{Bool, true, false, true≢false, ◌&&◌, cond}}
use lib.Dec.{leb, ltb}
use borrow.Author.Tests.{leb-true, leb-false, ltb-true, ltb-false, le-leb, lt-leb, lt-ltb, le-ltb}
use Rattle.extent.specs.Extents.{has, larger, overlap, beyond}
use Rattle.extent.specs.declared.Extent.{Extent}
use Rattle.std.specs.Prelude.{Some, None, Option}

-- from the first sector on, what is left of the count tells the end
pub ltb_sub : (sector first count : ℕ) → first ≤ sector → ltb (sector - first) count ≡ ltb sector (first + count)
ltb_sub sector first count starts = go (ltb sector (first + count)) refl
  where
    go : (t : Bool) → ltb sector (first + count) ≡ t → ltb (sector - first) count ≡ t
    go true e = lt-ltb (sector - first) count (omega (arith, ltb-true sector (first + count) e))
    go false e = le-ltb (sector - first) count (omega (arith, ltb-false sector (first + count) e))

-- what is left before an end, past the count, tells the end too
pub leb_rest : (first count end : ℕ) → count ≤ end → leb first (end - count) ≡ leb (first + count) end
leb_rest first count end fits = go (leb (first + count) end) refl
  where
    go : (t : Bool) → leb (first + count) end ≡ t → leb first (end - count) ≡ t
    go true e = le-leb first (end - count) (omega (arith, leb-true (first + count) end e))
    go false e = lt-leb first (end - count) (omega (arith, leb-false (first + count) end e))

-- the larger of two numbers, as a number's own method says it
pub max_larger : (a b : ℕ) → max a b ≡ larger a b
unfolding larger
max_larger a b = go (ltb a b) refl
  where
    go : (t : Bool) → ltb a b ≡ t → max a b ≡ cond t b a
    go true e = omega (arith, ltb-true a b e)
    go false e = omega (arith, ltb-false a b e)

-- a sector is an extent's
pub record In (extent : Extent) (sector : ℕ) : Type 0 where
  pub starts : extent.first ≤ sector
  pub ends : sector < extent.first + extent.count

-- what the test says from the first sector on
module _ (extent : Extent) (sector : ℕ) (starts : extent.first ≤ sector) where
  has_ends : has extent sector ≡ true → sector < extent.first + extent.count
  unfolding has
  has_ends e = ltb-true sector (extent.first + extent.count) (rw (le-leb extent.first sector starts) at e)

  has_not : has extent sector ≡ false → extent.first + extent.count ≤ sector
  unfolding has
  has_not e = ltb-false sector (extent.first + extent.count) (rw (le-leb extent.first sector starts) at e)

-- two extents by what they share
pub data Shared (a b : Extent) : Option ℕ → Type 0 where
  none : ((sector : ℕ) → In a sector → In b sector → ⊥) → Shared a b None
  least : (sector : ℕ) → In a sector → In b sector → ((other : ℕ) → In a other → In b other → sector ≤ other) → Shared a b (Some sector)

module _ (a b : Extent) where
  abbrev sector : ℕ
  sector = larger a.first b.first

  larger_left : a.first ≤ sector
  unfolding larger
  larger_left = go (ltb a.first b.first) refl
    where
      go : (t : Bool) → ltb a.first b.first ≡ t → a.first ≤ cond t b.first a.first
      go true e = omega (arith, ltb-true a.first b.first e)
      go false e = omega arith

  larger_right : b.first ≤ sector
  unfolding larger
  larger_right = go (ltb a.first b.first) refl
    where
      go : (t : Bool) → ltb a.first b.first ≡ t → b.first ≤ cond t b.first a.first
      go true e = omega arith
      go false e = omega (arith, ltb-false a.first b.first e)

  larger_least : (other : ℕ) → a.first ≤ other → b.first ≤ other → sector ≤ other
  unfolding larger
  larger_least other p q = go (ltb a.first b.first)
    where
      go : (t : Bool) → cond t b.first a.first ≤ other
      go true = q
      go false = p

  pub overlap_shared : Shared a b (overlap a b)
  unfolding overlap
  overlap_shared = go (has a sector) (has b sector) refl refl
    where
      go : (p q : Bool) → has a sector ≡ p → has b sector ≡ q → Shared a b (cond (p && q) (Some sector) None)
      go true true e f =
          least sector (record { starts = larger_left; ends = has_ends a sector larger_left e })
          (record { starts = larger_right; ends = has_ends b sector larger_right f })
          (λ other p q. larger_least other p.starts q.starts)
      go true false e f = none λ other p q.
          absurd (omega (arith, has_not b sector larger_right f, larger_least other p.starts q.starts, q.ends))
      go false t e f = none λ other p q.
          absurd (omega (arith, has_not a sector larger_left e, larger_least other p.starts q.starts, p.ends))

-- something in the way is not nothing
is_apart : Option ℕ → Bool
is_apart None = true
is_apart (Some found) = false

pub from_apart : {A : Type 0} (found : ℕ) → Some found ≡ None → A
unfolding is_apart
from_apart found e = absurd (true≢false (sym (ap is_apart e)))

-- nothing of an extent lies past an end exactly where the extent ends by there
module _ (extent : Extent) (end : ℕ) where
  pub beyond_apart : beyond extent end ≡ None → extent.first + extent.count ≤ end
  unfolding beyond
  beyond_apart = go (leb (extent.first + extent.count) end) refl
    where
      go : (t : Bool) → leb (extent.first + extent.count) end ≡ t → cond t None (Some (larger extent.first end)) ≡ None
          → extent.first + extent.count ≤ end
      go true e f = leb-true (extent.first + extent.count) end e
      go false e f = from_apart (larger extent.first end) f

  pub apart_beyond : extent.first + extent.count ≤ end → beyond extent end ≡ None
  unfolding beyond
  apart_beyond h = simp (le-leb (extent.first + extent.count) end h)
