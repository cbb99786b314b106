-- What may be protected (RULES.md, Views): a range, and its user sectors. What the contracts of `protection` cite. Assumes nothing.
use Rattle.std.specs.Prelude.{ℕ, ◌+◌, ◌-◌, ◌/◌, ◌%◌, Bool, true, ◌&&◌, leb, ltb, eqb, Option, Some, None}
use Rattle.extent.specs.declared.Extent.{Extent}
use Rattle.layout.specs.{Rules.{sector_bytes, standard, sound}, declared.Layout.Layout}

-- nothing, or the bytes of the host from the first number up to, not including, the second
abbrev pub Protection : Type 0
Protection = Option (ℕ × ℕ)

-- the byte past a layout's data area: O+V
unfoldable pub area_end : Layout → ℕ
area_end layout = layout.data_start + layout.data_size

-- what a view may protect: nothing, or one or more whole sectors of the data area of a standard volume
unfoldable pub protection_rule : Layout → Protection → Bool
protection_rule layout None = true
protection_rule layout (Some (first, end)) =
    eqb layout.kind standard && eqb (first % sector_bytes) 0 && eqb (end % sector_bytes) 0 && ltb first end
    && leb layout.data_start first && leb end (area_end layout)

-- a layout is sound, and what is protected in it
unfoldable pub sound_protection : Layout → Protection → Bool
sound_protection layout protection = sound layout && protection_rule layout protection

-- what is protected, as user sectors of the layout
unfoldable pub protected_extent : Layout → Protection → Extent
protected_extent layout None = record { first = 0; count = 0 }
protected_extent layout (Some (first, end)) =
    record { first = (first - layout.data_start) / sector_bytes; count = (end - first) / sector_bytes }
