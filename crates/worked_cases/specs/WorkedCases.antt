-- The worked cases (RULES.md, Worked cases): the starred ones in one table, and the map program's output, over the definitions that the
-- contracts cite. Those of opening and of the cipher are in crates of their own. Assumes nothing.
use Rattle.std.specs.Prelude.{ℕ, ◌-◌, ◌*◌, ◌^◌, replicate, Ok, Err, Some, None, Option, ⊤}
use mathlib.Core.{Path.◌≡◌, List.{List, [], ◌∷◌, ◌++◌}}
use Rattle.bits.specs.Cases.{Rows, Right}
use Rattle.answers.specs.Answers.{answer_sector, Answer, refusal_number}
use Rattle.layout.specs.declared.Layout.{Layout}
use Rattle.sector_map.specs.SectorMap.{host_sector, user_sector}
use Rattle.tweaks.specs.Tweaks.{tweak_of}
use Rattle.tweaks.specs.declared.Tweak.{Tweak}
use Rattle.view.specs.Outcomes.{view_read, view_write, after}
use Rattle.making.specs.Views.{plain_view, protected_view}
use Rattle.view.specs.declared.View.{View}
use Rattle.map_output.specs.MapOutput.{layout_lines}
use Rattle.header_claims.specs.MapProgram.{letters}
use Rattle.worked_headers.specs.Openings.{opening_cases}
use Rattle.worked_sectors.specs.SectorSizes.{sector_size_cases}
use Rattle.worked_cipher.specs.Units.{cipher_cases}

-- a volume in a host of 1,048,576 bytes, as a version 5 TRUE header tells it: its kind, O, V, candidate and Z
unfoldable pub volume : ℕ → ℕ → ℕ → ℕ → ℕ → Layout
volume kind start size candidate sectors =
    record {
      host_size = 1048576;
      kind = kind;
      magic = 1;
      version = 5;
      min_program_version = 1792;
      data_start = start;
      data_size = size;
      candidate = candidate;
      sector_size = sectors;
    }

-- M, a standard volume, and N, hidden in it; and M on a disk with sectors of 4,096 bytes
unfoldable pub volume_m : Layout
volume_m = volume 0 131072 786432 0 512

unfoldable pub volume_n : Layout
volume_n = volume 1 655360 262144 1 512

unfoldable pub large_m : Layout
large_m = volume 0 131072 786432 0 4096

-- what a case tells of the map: the refusal number, or 0 and the sector or tweak number
unfoldable pub mapped_told : Answer ℕ → List ℕ
mapped_told (Ok number) = 0 ∷ number ∷ []
mapped_told (Err refusal) = refusal.number ∷ []

-- .. and of a tweak, its block behind that
unfoldable pub tweak_told : Tweak → List ℕ
tweak_told tweak = mapped_told tweak.number ++ tweak.block

-- what a case tells of a sector in the way: nothing, or the sector
unfoldable pub sector_told : Option ℕ → List ℕ
sector_told None = []
sector_told (Some sector) = sector ∷ []

-- .. and of a call on a view that was made: the refusal number, 0 for accepted, and the sector in the way
unfoldable pub on_view : Answer View → (View → Answer ⊤) → List ℕ
on_view (Ok view) answer = refusal_number (answer view) ∷ sector_told (answer_sector (answer view))
on_view (Err refusal) answer = []

-- the answer to a write on an image of M's size with a buffer of some size
unfoldable pub writing_from : ℕ → ℕ → ℕ → View → Answer ⊤
writing_from buffer_size first count view = view_write view 1048576 first count buffer_size

-- .. to a write, and to a read, on an image of M's size with a buffer of the extent's
unfoldable pub writing : ℕ → ℕ → View → Answer ⊤
writing first count view = writing_from (count * 512) first count view

unfoldable pub reading : ℕ → ℕ → View → Answer ⊤
reading first count view = view_read view 1048576 first count (count * 512)

-- the view that a write leaves
unfoldable pub leaving : ℕ → ℕ → View → View
leaving first count view = after view (writing first count view)

-- the map
unfoldable pub map_cases : Rows
map_cases =
    -- M's first sector, its last, the one past it, and N's first
    (tweak_told (tweak_of volume_m 0), 0 ∷ 256 ∷ 0x00 ∷ 0x01 ∷ replicate 14 0)
    ∷ (tweak_told (tweak_of volume_m 1535), 0 ∷ 1791 ∷ 0xFF ∷ 0x06 ∷ replicate 14 0)
    ∷ (mapped_told (host_sector volume_m 1536), 16 ∷ [])
    ∷ (tweak_told (tweak_of volume_n 0), 0 ∷ 1280 ∷ 0x00 ∷ 0x05 ∷ replicate 14 0)
    -- back: the host sector before M's data area, and the first in it
    ∷ (mapped_told (user_sector volume_m 255), 16 ∷ [])
    ∷ (mapped_told (user_sector volume_m 256), 0 ∷ 0 ∷ [])
    ∷ []

-- reads and writes
unfoldable pub access_cases : Rows
access_cases =
    -- M with N protected: a write that ends where N begins, and one that goes on into N
    (on_view (protected_view volume_m volume_n) (writing 1023 1), 0 ∷ [])
    ∷ (on_view (protected_view volume_m volume_n) (writing 1023 2), 18 ∷ 1024 ∷ [])
    -- .. and through the view which that one leaves, a write and a read elsewhere
    ∷ (on_view (protected_view volume_m volume_n) (λ view. writing 0 1 (leaving 1023 2 view)), 17 ∷ [])
    ∷ (on_view (protected_view volume_m volume_n) (λ view. reading 0 1 (leaving 1023 2 view)), 0 ∷ [])
    -- M alone: no sector at its end, one sector there, and no sector past its end
    ∷ (on_view (plain_view volume_m) (writing 1536 0), 0 ∷ [])
    ∷ (on_view (plain_view volume_m) (writing 1536 1), 16 ∷ 1536 ∷ [])
    ∷ (on_view (plain_view volume_m) (writing 1537 0), 16 ∷ 1537 ∷ [])
    -- .. a write that starts inside it, and the last sector that a call can name
    ∷ (on_view (plain_view volume_m) (writing 1500 100), 16 ∷ 1536 ∷ [])
    ∷ (on_view (plain_view volume_m) (writing (2 ^ 64 - 1) 128), 16 ∷ (2 ^ 64 - 1) ∷ [])
    -- M on a disk with sectors of 4,096 bytes: a start inside one, an end inside one, and one that is whole
    ∷ (on_view (plain_view large_m) (writing 1 1), 20 ∷ [])
    ∷ (on_view (plain_view large_m) (writing 0 7), 20 ∷ [])
    ∷ (on_view (plain_view large_m) (writing 8 8), 0 ∷ [])
    -- .. 15 comes before 20, and 20 before 16; and no sector at a start inside one
    ∷ (on_view (plain_view large_m) (writing_from 511 1 1), 15 ∷ [])
    ∷ (on_view (plain_view large_m) (writing 1537 1), 20 ∷ [])
    ∷ (on_view (plain_view large_m) (writing 1536 8), 16 ∷ 1536 ∷ [])
    ∷ (on_view (plain_view large_m) (writing 1 0), 20 ∷ [])
    ∷ []

-- the table
unfoldable pub cases : Rows
cases = opening_cases ++ (sector_size_cases ++ (map_cases ++ (access_cases ++ cipher_cases)))

-- the claim: every case, and the map program's whole output for M, is as the rules say
pub record AsWorked : Type 0 where
  pub table : Right cases
  pub output : layout_lines volume_m
      ≡ letters "mark TRUE\nversion 5\nneeds 1792\nkind standard\nhost 1048576\nstart 131072\nsize 786432\nsectors 1536\nfirst 256\nlast 1791\n"
