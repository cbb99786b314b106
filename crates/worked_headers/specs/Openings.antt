-- Worked cases of opening (RULES.md, Worked cases), over the definitions that the contracts cite. Assumes nothing.
use Rattle.std.specs.Prelude.{ℕ, ◌-◌, ◌/◌, ◌^◌, List, [], ◌∷◌, ◌++◌, replicate, Ok, Err}
use Rattle.bits.specs.Cases.{Rows}
use Rattle.numbers.specs.Numbers.{big_endian_bytes}
use Rattle.crc32.specs.Crc32.{crc32}
use Rattle.header_format.specs.Format.{true_magic}
use Rattle.opening.specs.Opening.{opened}
use Rattle.answers.specs.Answers.{Answer}
use Rattle.layout.specs.declared.Layout.{Layout}

-- what a header of a case tells: H, O, V, which is also E, and Z
pub record Told : Type 0 where
  pub hidden_size : ℕ
  pub start : ℕ
  pub size : ℕ
  pub sectors : ℕ

-- .. for a standard volume, and for a hidden one
unfoldable pub outer_told : ℕ → ℕ → Told
outer_told size sectors = record { hidden_size = 0; start = 131072; size = size; sectors = sectors }

unfoldable pub hidden_told : ℕ → ℕ → ℕ → Told
hidden_told start size sectors = record { hidden_size = size; start = start; size = size; sectors = sectors }

-- the fields of such a header, version 5 and TRUE, from its magic to its last reserved byte; its keys are zeros, which have this checksum
unfoldable pub field_bytes : Told → List ℕ
field_bytes told =
    true_magic ++ big_endian_bytes 2 5 ++ big_endian_bytes 2 1792 ++ big_endian_bytes 4 0x0D968558 ++ replicate 16 0
    ++ big_endian_bytes 8 told.hidden_size ++ big_endian_bytes 8 told.size ++ big_endian_bytes 8 told.start ++ big_endian_bytes 8 told.size
    ++ big_endian_bytes 4 0 ++ big_endian_bytes 4 told.sectors ++ replicate 120 0

-- the header: a salt, the fields, their checksum and the keys; the salt is zeros too
unfoldable pub header_with : Told → List ℕ
header_with told =
    let fields = field_bytes told in
    replicate 64 0 ++ fields ++ big_endian_bytes 4 (crc32 fields) ++ replicate 256 0

-- what a case tells of opening: the refusal number, or 0 and the count of sectors
unfoldable pub told_of : Answer Layout → List ℕ
told_of (Ok layout) = 0 ∷ layout.data_size / 512 ∷ []
told_of (Err refusal) = refusal.number ∷ []

-- opening at a code with one header, for S
unfoldable pub opens : ℕ → ℕ → List ℕ → List ℕ
opens code host_size header = told_of (opened header (code ∷ []) host_size)

-- opening
unfoldable pub opening_cases : Rows
opening_cases =
    let one_sector = header_with (outer_told 512 512) in
    -- in the least host, and in one that is a sector smaller
    (opens 0 262656 one_sector, 0 ∷ 1 ∷ [])
    ∷ (opens 0 262144 one_sector, 3 ∷ [])
    -- with a data area that is a sector too large, and with one near 2^64
    ∷ (opens 0 1048576 (header_with (outer_told 786944 512)), 10 ∷ [])
    ∷ (opens 0 1048576 (header_with (outer_told (2 ^ 64 - 512) 512)), 10 ∷ [])
    ∷ []
