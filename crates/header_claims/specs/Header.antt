-- The 512 header bytes (RULES.md, Header bytes): when a candidate is a header, the six lines that an accepted one keeps, and what its
-- layout tells. Stated over the bytes at their offsets, apart from the definitions that the contracts cite. Assumes nothing.
use Rattle.std.specs.Prelude.{ℕ, ◌+◌, ◌*◌, ◌/◌, ◌%◌, ◌≤◌, ◌<◌}
use mathlib.Core.{Path.◌≡◌, Logic.◌⊎◌, List.{List, [], ◌∷◌}}
use Rattle.std.specs.Prelude.{take, drop}
use Rattle.numbers.specs.Numbers.{big_endian}
use Rattle.crc32.specs.Crc32.{crc32}
use Rattle.layout.specs.Rules.{standard, hidden}
use Rattle.layout.specs.declared.Layout.{Layout}
use Rattle.header_format.specs.declared.Fields.{Fields}
use Rattle.header_claims.specs.Numbers.{AllZero}

-- so many bytes from an offset on
abbrev pub bytes_at : ℕ → ℕ → List ℕ → List ℕ
bytes_at offset size bytes = take size (drop offset bytes)

-- the two magics in ASCII, VERA and TRUE
abbrev pub vera_letters : List ℕ
vera_letters = 0x56 ∷ 0x45 ∷ 0x52 ∷ 0x41 ∷ []

abbrev pub true_letters : List ℕ
true_letters = 0x54 ∷ 0x52 ∷ 0x55 ∷ 0x45 ∷ []

-- .. at bytes 64 to 67
abbrev pub IsVera : List ℕ → Type 0
IsVera h = bytes_at 64 4 h ≡ vera_letters

abbrev pub IsTrue : List ℕ → Type 0
IsTrue h = bytes_at 64 4 h ≡ true_letters

-- the versions that headers of a magic may have
abbrev pub Supported : List ℕ → ℕ → Type 0
Supported magic version =
    (magic ≡ vera_letters → (2 ≤ version) × (version ≤ 5)) × (magic ≡ true_letters → (version ≡ 4) ⊎ (version ≡ 5))

-- the numbers, each at its offset with its size
abbrev pub fields_at : List ℕ → Fields
fields_at h =
    record {
      version = big_endian (bytes_at 68 2 h);
      min_program_version = big_endian (bytes_at 70 2 h);
      hidden_size = big_endian (bytes_at 92 8 h);
      data_size = big_endian (bytes_at 100 8 h);
      data_start = big_endian (bytes_at 108 8 h);
      encrypted_size = big_endian (bytes_at 116 8 h);
      flags = big_endian (bytes_at 124 4 h);
      sector_size = big_endian (bytes_at 128 4 h);
    }

-- a candidate is a header: its magic, the checksum of its keys at 72, and that of its fields, from the magic on, at 252
pub record IsHeader (h : List ℕ) : Type 0 where
  pub magic : IsVera h ⊎ IsTrue h
  pub keys : crc32 (bytes_at 256 256 h) ≡ big_endian (bytes_at 72 4 h)
  pub fields : crc32 (bytes_at 64 188 h) ≡ big_endian (bytes_at 252 4 h)

-- a number is a multiple of another: so many times it
abbrev pub Multiple : ℕ → ℕ → Type 0
Multiple number of = (times : ℕ) × (number ≡ times * of)

-- the sizes that a disk's own sectors may have
abbrev pub SectorSize : ℕ → Type 0
SectorSize size = (size ≡ 512) ⊎ ((size ≡ 1024) ⊎ ((size ≡ 2048) ⊎ (size ≡ 4096)))

-- one of the two kinds; a made-up kind breaks the line of the hidden size
abbrev pub KnownKind : ℕ → Type 0
KnownKind kind = (kind ≡ standard) ⊎ (kind ≡ hidden)

-- the six lines, in the order in which they are tested
pub data Line : Type 0 where
  version reserved flags sector_size hidden_size data_area : Line

-- the refusal number of a line
unfoldable pub number : Line → ℕ
number version = 5
number reserved = 6
number flags = 7
number sector_size = 8
number hidden_size = 9
number data_area = 10

-- what a layout tells of a header, field by field: for the kind of its location, a host size and the candidate's index
pub record Tells (kind host_size index : ℕ) (h : List ℕ) (layout : Layout) : Type 0 where
  pub host_size_told : layout.host_size ≡ host_size
  pub kind_told : layout.kind ≡ kind
  pub vera_told : IsVera h → layout.magic ≡ 0
  pub true_told : IsTrue h → layout.magic ≡ 1
  pub version_told : layout.version ≡ (fields_at h).version
  pub min_program_version_told : layout.min_program_version ≡ (fields_at h).min_program_version
  pub start_told : layout.data_start ≡ (fields_at h).data_start
  pub size_told : layout.data_size ≡ (fields_at h).data_size
  pub candidate_told : layout.candidate ≡ index
  pub sector_size_told : layout.sector_size ≡ (fields_at h).sector_size

-- the last line: a data area of whole sectors of the disk and at least one, as is the host, all of it encrypted, that starts where its kind
-- may and leaves the backup headers free; the sums are of whole numbers
pub record DataArea (layout : Layout) (encrypted_size : ℕ) : Type 0 where
  pub at_least : 512 ≤ layout.data_size
  pub size_multiple : Multiple layout.data_size layout.sector_size
  pub start_multiple : Multiple layout.data_start layout.sector_size
  pub host_multiple : Multiple layout.host_size layout.sector_size
  pub encrypted : encrypted_size ≡ layout.data_size
  pub standard_start : layout.kind ≡ standard → layout.data_start ≡ 131072
  pub hidden_start : layout.kind ≡ hidden → 131072 ≤ layout.data_start
  pub fits : layout.data_start + layout.data_size + 131072 ≤ layout.host_size

-- what it is for a header to keep a line, for the kind of its location and a host size
unfoldable pub Keeps : Line → ℕ → ℕ → List ℕ → Type 0
Keeps version kind host_size h = Supported (bytes_at 64 4 h) (fields_at h).version
Keeps reserved kind host_size h = ((fields_at h).flags / 4 ≡ 0) × (IsVera h → AllZero (bytes_at 76 16 h) × AllZero (bytes_at 132 120 h))
Keeps flags kind host_size h = (fields_at h).flags % 4 ≡ 0
Keeps sector_size kind host_size h = SectorSize (fields_at h).sector_size
Keeps hidden_size kind host_size h =
    KnownKind kind
    × ((kind ≡ standard → (fields_at h).hidden_size ≡ 0)
    × (kind ≡ hidden → ((fields_at h).hidden_size ≡ 0 → ⊥) × ((fields_at h).hidden_size ≡ (fields_at h).data_size)))
Keeps data_area kind host_size h =
    (index : ℕ) (layout : Layout) → Tells kind host_size index h layout → DataArea layout (fields_at h).encrypted_size

-- the first line that a header breaks: those before it are kept
pub record FirstBroken (line : Line) (kind host_size : ℕ) (h : List ℕ) : Type 0 where
  pub broken : Keeps line kind host_size h → ⊥
  pub earlier : (other : Line) → number other < number line → Keeps other kind host_size h
