-- The order of checks (RULES.md, Reads and writes): what a read or a write answers, by lengths and numbers alone. What the contracts of
-- `judgement` and `access` cite. Assumes nothing.
use Rattle.std.specs.Prelude.{ℕ, ◌*◌, ◌/◌, Bool, not, ◌&&◌, leb, eqb, Ok, Some, None, Option, ⊤}
use Rattle.answers.specs.Answers.{line, Answer, refuse, refuse_at}
use Rattle.extent.specs.Extents.{overlap, beyond}
use Rattle.layout.specs.{Rules.{sector_bytes, multiple}, declared.Layout.Layout}
use Rattle.protection.specs.Protection.{sound_protection, protected_extent}
use Rattle.sector_map.specs.SectorMap.{sectors}
use Rattle.protection.specs.Protection.{Protection}

-- the most sectors of one call
abbrev pub max_count : ℕ
max_count = 128

-- an extent is of whole sectors of the disk: its first sector and its count are multiples of Z/512
unfoldable pub alignment_rule : Layout → ℕ → ℕ → Bool
alignment_rule layout first count =
    multiple first (layout.sector_size / sector_bytes) && multiple count (layout.sector_size / sector_bytes)

-- one check of an extent: its refusal at the first sector in the way, else what the later checks say
unfoldable pub blocked_by : ℕ → Option ℕ → Answer ⊤ → Answer ⊤
blocked_by number None later = later
blocked_by number (Some sector) later = refuse_at number sector

-- the last check of every call, and then the later ones: the extent ends by the volume's end
unfoldable pub end_answer : Layout → ℕ → ℕ → Answer ⊤ → Answer ⊤
end_answer layout first count later = blocked_by 16 (beyond (record { first = first; count = count }) (sectors layout)) later

-- the checks of every call, in order, and then the later ones: of a layout and what is protected, the image's length, an extent and the
-- buffer's length
unfoldable pub checked : Layout → Protection → ℕ → ℕ → ℕ → ℕ → Answer ⊤ → Answer ⊤
checked layout protection image_size first count buffer_size later =
    line (refuse 11) (sound_protection layout protection)
    (line (refuse 13) (eqb image_size layout.host_size)
    (line (refuse 14) (leb count max_count)
    (line (refuse 15) (eqb buffer_size (count * sector_bytes))
    (line (refuse 20) (alignment_rule layout first count) (end_answer layout first count later)))))

-- the later checks of a write: the lock, and then the protected range
unfoldable pub lock_answer : Layout → Protection → Bool → ℕ → ℕ → Answer ⊤
lock_answer layout protection locked first count =
    line (refuse 17) (not locked)
    (blocked_by 18 (overlap (record { first = first; count = count }) (protected_extent layout protection)) (Ok tt))

-- what a read answers
unfoldable pub read_answer : Layout → Protection → ℕ → ℕ → ℕ → ℕ → Answer ⊤
read_answer layout protection image_size first count buffer_size = checked layout protection image_size first count buffer_size (Ok tt)

-- what a write answers
unfoldable pub write_answer : Layout → Protection → Bool → ℕ → ℕ → ℕ → ℕ → Answer ⊤
write_answer layout protection locked image_size first count buffer_size =
    checked layout protection image_size first count buffer_size (lock_answer layout protection locked first count)
