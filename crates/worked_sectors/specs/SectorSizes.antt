-- Worked cases of opening by the size of a disk's sectors (RULES.md, Worked cases). Assumes nothing.
use Rattle.std.specs.Prelude.{ℕ, List, [], ◌∷◌}
use Rattle.bits.specs.Cases.{Rows}
use Rattle.worked_headers.specs.Openings.{outer_told, hidden_told, header_with, opens}

-- opening with M's header, for a Z
unfoldable pub opens_m : ℕ → List ℕ
opens_m sectors = opens 0 1048576 (header_with (outer_told 786432 sectors))

-- opening, by the size of the disk's sectors
unfoldable pub sector_size_cases : Rows
sector_size_cases =
    -- M's header with each size that they may have, and with three that they may not
    (opens_m 512, 0 ∷ 1536 ∷ [])
    ∷ (opens_m 1024, 0 ∷ 1536 ∷ [])
    ∷ (opens_m 2048, 0 ∷ 1536 ∷ [])
    ∷ (opens_m 4096, 0 ∷ 1536 ∷ [])
    ∷ (opens_m 513, 8 ∷ [])
    ∷ (opens_m 8192, 8 ∷ [])
    ∷ (opens_m 0, 8 ∷ [])
    -- sectors of 4,096 bytes: S, then V, 512 off a multiple; N's header, and with O 512 off
    ∷ (opens 0 1049088 (header_with (outer_told 786432 4096)), 10 ∷ [])
    ∷ (opens 0 1048576 (header_with (outer_told 785920 4096)), 10 ∷ [])
    ∷ (opens 1 1048576 (header_with (hidden_told 655360 262144 4096)), 0 ∷ 512 ∷ [])
    ∷ (opens 1 1048576 (header_with (hidden_told 654848 262144 4096)), 10 ∷ [])
    ∷ []
