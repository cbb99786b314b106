-- What two extents share, and what of one lies past an end, in whole numbers. `overlap` and `beyond` are the definitions that the contracts of
-- `extent` cite. Assumes nothing.
use Rattle.std.specs.Prelude.{ℕ, ◌+◌, ◌≤◌, ◌<◌, Some, None}
use mathlib.Core.{Path.◌≡◌, Logic.◌↔◌}
use Rattle.extent.specs.Extents.{overlap, beyond}
use Rattle.extent.specs.declared.Extent.{Extent}

-- a sector lies in an extent: from the first one on, before the end
pub record Within (extent : Extent) (sector : ℕ) : Type 0 where
  pub starts : extent.first ≤ sector
  pub ends : sector < extent.first + extent.count

-- the claim, for any two extents
pub record SharesLeast (a b : Extent) : Type 0 where
  -- a sector is told exactly when it lies in both and no smaller one does
  pub least : (sector : ℕ)
      → (overlap a b ≡ Some sector) ↔ (Within a sector × Within b sector × ((other : ℕ) → Within a other → Within b other → sector ≤ other))
  -- they are apart exactly when no sector lies in both
  pub apart : (overlap a b ≡ None) ↔ ((sector : ℕ) → Within a sector → Within b sector → ⊥)

-- a sector is the first of an extent at or past an end: none of the extent's before it is; an extent without sectors starts there
pub record IsFirstPast (extent : Extent) (end sector : ℕ) : Type 0 where
  pub past : end ≤ sector
  pub within : 0 < extent.count → Within extent sector
  pub least : (other : ℕ) → Within extent other → end ≤ other → sector ≤ other
  pub empty : extent.count ≡ 0 → sector ≡ extent.first

-- the claim, for any extent and any end
pub record EndsBy (extent : Extent) (end : ℕ) : Type 0 where
  -- nothing lies past the end exactly where the extent ends by there, the sum a whole number
  pub inside : (beyond extent end ≡ None) ↔ (extent.first + extent.count ≤ end)
  -- and else the first such sector is told
  pub past : end < extent.first + extent.count → (sector : ℕ) → (beyond extent end ≡ Some sector) ↔ IsFirstPast extent end sector
