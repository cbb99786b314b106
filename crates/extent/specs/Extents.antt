-- Extents: which sectors one has, the least that two share, and the first of one at or past an end. What the contracts of `extent` cite.
-- Assumes nothing.
use Rattle.std.specs.Prelude.{ℕ, ◌+◌, Bool, ◌&&◌, cond, leb, ltb, Some, None, Option}
use Rattle.extent.specs.declared.Extent.{Extent}

-- an extent has a sector: from its first one on, so many as it counts
unfoldable pub has : Extent → ℕ → Bool
has extent sector = leb extent.first sector && ltb sector (extent.first + extent.count)

-- the larger of two numbers
unfoldable pub larger : ℕ → ℕ → ℕ
larger a b = cond (ltb a b) b a

-- the least sector that two extents share: the larger of their first ones, if both have it
unfoldable pub overlap : Extent → Extent → Option ℕ
overlap a b =
    let sector = larger a.first b.first in
    cond (has a sector && has b sector) (Some sector) None

-- the first sector of an extent at or past an end, unless the extent ends by there: the larger of its first one and the end
unfoldable pub beyond : Extent → ℕ → Option ℕ
beyond extent end = cond (leb (extent.first + extent.count) end) None (Some (larger extent.first end))
