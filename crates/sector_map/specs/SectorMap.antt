-- The sector map (RULES.md, Sector map): user sectors and host sectors of a layout. Sectors have 512 bytes.
-- What the contracts of `sector_map` cite. Assumes nothing.
use Rattle.std.specs.Prelude.{ℕ, ◌+◌, ◌-◌, ◌/◌, ◌&&◌, leb, ltb, Ok}
use Rattle.layout.specs.{Rules.{sector_bytes, sound}, declared.Layout.Layout}
use Rattle.answers.specs.Answers.{line, Answer, refuse}

-- how many sectors a volume has: V/512
unfoldable pub sectors : Layout → ℕ
sectors layout = layout.data_size / sector_bytes

-- the host sector of user sector 0: O/512
unfoldable pub first_sector : Layout → ℕ
first_sector layout = layout.data_start / sector_bytes

-- the count of sectors, of a sound layout
unfoldable pub sector_count : Layout → Answer ℕ
sector_count layout = line (refuse 11) (sound layout) (Ok (sectors layout))

-- the host sector of a user sector u below V/512: O/512+u
unfoldable pub host_sector : Layout → ℕ → Answer ℕ
host_sector layout user =
    line (refuse 11) (sound layout) (line (refuse 16) (ltb user (sectors layout)) (Ok (first_sector layout + user)))

-- the way back: the user sector that a host sector holds, if the data area has it
unfoldable pub user_sector : Layout → ℕ → Answer ℕ
user_sector layout host =
    line (refuse 11) (sound layout)
    (line (refuse 16) (leb (first_sector layout) host && ltb host (first_sector layout + sectors layout)) (Ok (host - first_sector layout)))
