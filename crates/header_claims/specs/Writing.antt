-- Writing headers (RULES.md, Writing headers): exactly when one is written, that opening reads it back, and that a header which opened, taken
-- apart and written again, is the same. `header_answer`, `header_left` and `header_over` are the definitions that the contracts of
-- `header_writing` and `new_header` cite; the rules are stated apart from them. Assumes nothing.
use Rattle.std.specs.Prelude.{ℕ, ◌^◌, ◌≤◌, ◌<◌, length, Ok, Err, ⊤}
use mathlib.Core.{Path.◌≡◌, Logic.{◌⊎◌, ◌↔◌}, Bool.true, List.{List, [], ◌∷◌}}
use Rattle.bits.specs.Bits.{Bytes}
use Rattle.layout.specs.declared.Layout.{Layout}
use Rattle.opening.specs.Opening.{opened}
use Rattle.key_bytes.specs.KeyBytes.{KeyBytes}
use Rattle.numbers.specs.Numbers.{big_endian_bytes}
use Rattle.crc32.specs.Crc32.{crc32}
use Rattle.header_format.specs.Format.{new_lengths_rule}
use Rattle.new_header.specs.NewHeader.{header_over}
use Rattle.header_writing.specs.HeaderWriting.{asked_layout, header_answer, header_left}
use Rattle.header_claims.specs.Header.{bytes_at, vera_letters, true_letters, Supported, SectorSize, DataArea}
use Rattle.header_claims.specs.{Numbers.AllZero, Opening.{HostSize, kind_of}}
use Rattle.answers.specs.Answers.{Answer, refuse}
use Rattle.answers.specs.declared.Refusal.{Refusal}

-- what the writer is asked for
pub record Request : Type 0 where
  pub magic : List ℕ
  pub version : ℕ
  pub min_program_version : ℕ
  pub code : ℕ
  pub host_size : ℕ
  pub data_start : ℕ
  pub data_size : ℕ
  pub sector_size : ℕ
  pub salt : List ℕ
  pub keys : List ℕ

-- what the types of its arguments say of it: a number of 16 bits, and bytes
pub record Passable (r : Request) : Type 0 where
  pub program_bits : r.min_program_version < 2 ^ 16
  pub salt_bytes : Bytes r.salt
  pub key_bytes : Bytes r.keys

-- what is asked for as a layout, as the contract has it
abbrev pub layout_asked : Request → Layout
layout_asked r =
    asked_layout r.magic r.version r.min_program_version r.code r.host_size r.data_start r.data_size r.sector_size

-- the answer of the contract, for the bytes that the header goes over
abbrev pub answer_to : Request → List ℕ → Answer ⊤
answer_to r before =
    header_answer r.code (layout_asked r) (length r.salt) (length r.keys) (length before)

-- .. and what it leaves of them
abbrev pub left_by : Request → List ℕ → List ℕ
left_by r before =
    header_left (answer_to r before) (layout_asked r) r.salt r.keys before

-- the layout that the header is to tell, with the number of its magic
abbrev pub layout_for : ℕ → Request → Layout
layout_for magic r =
    record {
      host_size = r.host_size;
      kind = kind_of r.code;
      magic = magic;
      version = r.version;
      min_program_version = r.min_program_version;
      data_start = r.data_start;
      data_size = r.data_size;
      candidate = 0;
      sector_size = r.sector_size;
    }

-- the checks, in their order
pub data Check : Type 0 where
  right_lengths known_magic known_code allowed_host supported_version allowed_sectors allowed_area : Check

-- the place of a check in that order
unfoldable pub place : Check → ℕ
place right_lengths = 0
place known_magic = 1
place known_code = 2
place allowed_host = 3
place supported_version = 4
place allowed_sectors = 5
place allowed_area = 6

-- the refusal number of a check
unfoldable pub refusal_of : Check → ℕ
refusal_of right_lengths = 1
refusal_of known_magic = 19
refusal_of known_code = 2
refusal_of allowed_host = 3
refusal_of supported_version = 5
refusal_of allowed_sectors = 8
refusal_of allowed_area = 10

-- what it is to pass a check, with so many bytes for the header; a data area has nothing to do with the magic
unfoldable pub Passes : Check → Request → ℕ → Type 0
Passes right_lengths r size = (length r.salt ≡ 64) × ((length r.keys ≡ 256) × (size ≡ 512))
Passes known_magic r size = (r.magic ≡ vera_letters) ⊎ (r.magic ≡ true_letters)
Passes known_code r size = r.code ≤ 3
Passes allowed_host r size = HostSize r.host_size
Passes supported_version r size = Supported r.magic r.version
Passes allowed_sectors r size = SectorSize r.sector_size
Passes allowed_area r size = DataArea (layout_for 0 r) r.data_size

-- the first check that is not passed: those before it are
pub record FirstFailed (check : Check) (r : Request) (size : ℕ) : Type 0 where
  pub failed : Passes check r size → ⊥
  pub earlier : (other : Check) → place other < place check → Passes other r size

-- exactly when: written where every check is passed, and else refused by the first that is not
pub record WritesExactly (r : Request) (before : List ℕ) : Type 0 where
  pub writes : ((check : Check) → Passes check r (length before)) → answer_to r before ≡ Ok tt
  pub only_writes : answer_to r before ≡ Ok tt → (check : Check) → Passes check r (length before)
  pub refuses : (check : Check) → FirstFailed check r (length before) → answer_to r before ≡ refuse (refusal_of check)
  pub one_holds : ((check : Check) → Passes check r (length before)) ⊎ ((check : Check) × FirstFailed check r (length before))
  -- a refusal writes nothing
  pub unchanged : (refusal : Refusal) → answer_to r before ≡ Err refusal → left_by r before ≡ before

-- read back: what is written opens at its code and host size, with the same fields, keys and salt, and its unused bytes are zero
pub record ReadsBack (r : Request) (before : List ℕ) : Type 0 where
  pub vera_opens : answer_to r before ≡ Ok tt → Passable r → r.magic ≡ vera_letters
      → opened (left_by r before) (r.code ∷ []) r.host_size ≡ Ok (layout_for 0 r)
  pub true_opens : answer_to r before ≡ Ok tt → Passable r → r.magic ≡ true_letters
      → opened (left_by r before) (r.code ∷ []) r.host_size ≡ Ok (layout_for 1 r)
  pub keys_given : answer_to r before ≡ Ok tt → Passable r → (borrowed : ℕ × ℕ) (given : List ℕ) (returned : ℕ × ℕ)
      → KeyBytes (opened (left_by r before) (r.code ∷ []) r.host_size) (left_by r before) borrowed given returned → given ≡ r.keys
  pub salt_first : answer_to r before ≡ Ok tt → bytes_at 0 64 (left_by r before) ≡ r.salt
  pub unused_zero : answer_to r before ≡ Ok tt → AllZero (bytes_at 76 16 (left_by r before)) × AllZero (bytes_at 132 120 (left_by r before))

-- what stands in a new header, by its offsets: H is V for a hidden volume and else 0, E is V, no flag is set, and the reserved bytes are
-- zero; the second checksum takes in the first
pub record Lays (layout : Layout) (salt keys h : List ℕ) : Type 0 where
  pub whole : length h ≡ 512
  pub salt_laid : bytes_at 0 64 h ≡ salt
  pub vera_laid : layout.magic ≡ 0 → bytes_at 64 4 h ≡ vera_letters
  pub true_laid : (layout.magic ≡ 0 → ⊥) → bytes_at 64 4 h ≡ true_letters
  pub version_laid : bytes_at 68 2 h ≡ big_endian_bytes 2 layout.version
  pub min_program_version_laid : bytes_at 70 2 h ≡ big_endian_bytes 2 layout.min_program_version
  pub key_checksum_laid : bytes_at 72 4 h ≡ big_endian_bytes 4 (crc32 keys)
  pub reserved_laid : AllZero (bytes_at 76 16 h)
  pub hidden_size_laid : layout.kind ≡ 1 → bytes_at 92 8 h ≡ big_endian_bytes 8 layout.data_size
  pub no_hidden_size_laid : (layout.kind ≡ 1 → ⊥) → AllZero (bytes_at 92 8 h)
  pub data_size_laid : bytes_at 100 8 h ≡ big_endian_bytes 8 layout.data_size
  pub data_start_laid : bytes_at 108 8 h ≡ big_endian_bytes 8 layout.data_start
  pub encrypted_size_laid : bytes_at 116 8 h ≡ big_endian_bytes 8 layout.data_size
  pub flags_laid : AllZero (bytes_at 124 4 h)
  pub sector_size_laid : bytes_at 128 4 h ≡ big_endian_bytes 4 layout.sector_size
  pub more_reserved_laid : AllZero (bytes_at 132 120 h)
  pub header_checksum_laid : bytes_at 252 4 h ≡ big_endian_bytes 4 (crc32 (bytes_at 64 188 h))
  pub keys_laid : bytes_at 256 256 h ≡ keys

-- a new header, for any layout: laid where the lengths are right, and else nothing is changed
pub record LaysHeaders (layout : Layout) (salt keys before : List ℕ) : Type 0 where
  pub lengths_test : (salt_size keys_size header_size : ℕ)
      → (new_lengths_rule salt_size keys_size header_size ≡ true) ↔ ((salt_size ≡ 64) × ((keys_size ≡ 256) × (header_size ≡ 512)))
  pub laid_over : length salt ≡ 64 → length keys ≡ 256 → length before ≡ 512 → Lays layout salt keys (header_over layout salt keys before)
  pub as_before : ((length salt ≡ 64) × ((length keys ≡ 256) × (length before ≡ 512)) → ⊥) → header_over layout salt keys before ≡ before

-- a header taken apart: its numbers by its layout, its salt and its keys by their bytes
abbrev pub taken_apart : List ℕ → List ℕ → ℕ → Layout → Request
taken_apart magic h code layout =
    record {
      magic = magic;
      version = layout.version;
      min_program_version = layout.min_program_version;
      code = code;
      host_size = layout.host_size;
      data_start = layout.data_start;
      data_size = layout.data_size;
      sector_size = layout.sector_size;
      salt = bytes_at 0 64 h;
      keys = bytes_at 256 256 h;
    }

-- written again: a header that opened is the same for VERA, and for TRUE exactly where its unused bytes are zero
pub record WritesAgain (h : List ℕ) (code host_size : ℕ) (layout : Layout) (before : List ℕ) : Type 0 where
  pub vera_again : opened h (code ∷ []) host_size ≡ Ok layout → Bytes h → length before ≡ 512 → layout.magic ≡ 0
      → left_by (taken_apart vera_letters h code layout) before ≡ h
  pub true_again : opened h (code ∷ []) host_size ≡ Ok layout → Bytes h → length before ≡ 512 → layout.magic ≡ 1
      → (left_by (taken_apart true_letters h code layout) before ≡ h) ↔ (AllZero (bytes_at 76 16 h) × AllZero (bytes_at 132 120 h))
