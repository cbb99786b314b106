-- The rules for a host's size, for a data area in it, and for a layout: what the contracts of `layout` cite, and all that is above it.
-- Sizes are in bytes; the two kinds of volume are numbers. Assumes nothing.
use Rattle.std.specs.Prelude.{ℕ, ◌+◌, ◌%◌, ◌^◌, Bool, cond, ◌&&◌, ◌||◌, ◌==◌, nat_le}
use Rattle.layout.specs.declared.Layout.{Layout}

-- a sector, whatever the disk's own have
abbrev pub sector_bytes : ℕ
sector_bytes = 512

-- what the headers take at the start of the host, and their backups at its end
abbrev pub headers_size : ℕ
headers_size = 131072

-- the smallest host: both header areas and one sector
abbrev pub min_host_size : ℕ
min_host_size = 262656

-- the largest host: 1 PB
abbrev pub max_host_size : ℕ
max_host_size = 2 ^ 50

-- the kind of a standard volume
abbrev pub standard : ℕ
standard = 0

-- the kind of a hidden volume
abbrev pub hidden : ℕ
hidden = 1

-- a number is a multiple of another
unfoldable pub multiple : ℕ → ℕ → Bool
multiple number of = number % of == 0

-- the rule for S (RULES.md, Opening): whole sectors, at least 262,656 bytes and at most 2^50
unfoldable pub host_size_rule : ℕ → Bool
host_size_rule host_size = host_size % sector_bytes == 0 && nat_le min_host_size host_size && nat_le host_size max_host_size

-- the rule for Z, the size of the disk's own sectors: 512, 1,024, 2,048 or 4,096
unfoldable pub sector_size_rule : ℕ → Bool
sector_size_rule size = size == 512 || (size == 1024 || (size == 2048 || size == 4096))

-- where a data area may lie, by its kind: a standard volume's starts right behind the headers and a hidden one's there or later, either
-- ends before the backups (O+V+131,072 is no more than S, as whole numbers), and no other kind has a place
unfoldable pub place_rule : Layout → Bool
place_rule layout =
    let start = layout.data_start in
    let end = layout.data_start + layout.data_size in
    cond (layout.kind == standard) (start == headers_size && nat_le (end + headers_size) layout.host_size)
    (layout.kind == hidden && (nat_le headers_size start && nat_le (end + headers_size) layout.host_size))

-- Z keeps its rule, the data area is not empty, and V, O and S are multiples of Z
unfoldable pub sectors_rule : Layout → Bool
sectors_rule layout =
    sector_size_rule layout.sector_size && nat_le sector_bytes layout.data_size && multiple layout.data_size layout.sector_size
    && multiple layout.data_start layout.sector_size && multiple layout.host_size layout.sector_size

-- line 10 of a header's rules (RULES.md, Header bytes) with E taken as V; no Z passes it that line 8 refuses
unfoldable pub data_area_rule : Layout → Bool
data_area_rule layout = sectors_rule layout && place_rule layout

-- a layout that anybody may have made up is sound (RULES.md, Views): S and the data area, and so Z, keep their rules, with E taken as V;
-- its magic, versions and candidate are not judged
unfoldable pub sound : Layout → Bool
sound layout = host_size_rule layout.host_size && data_area_rule layout
