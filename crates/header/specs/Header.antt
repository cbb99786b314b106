-- The 512 bytes of a header (RULES.md, Header bytes): their numbers, when they are a header, and the lines that an accepted header keeps.
-- What the contracts of `header` cite, in the rules' order. Assumes nothing.
use Rattle.std.specs.Prelude.{ℕ, ◌/◌, ◌%◌, Ok}
use mathlib.Core.{Bool.{Bool, true, ◌&&◌, not, cond}, List.List}
use lib.{Dec.{leb, eqb}, ListN.length}
use Rattle.fields.specs.Bytes.{field_part}
use Rattle.byte_tests.specs.Tests.{all_zero}
use Rattle.numbers.specs.Numbers.{big_endian}
use Rattle.crc32.specs.Crc32.{crc32}
use Rattle.answers.specs.Answers.{line, Answer, refuse}
use Rattle.layout.specs.Rules.{standard, hidden, sector_size_rule, data_area_rule}
use Rattle.layout.specs.declared.Layout.{Layout}
use Rattle.header_format.specs.declared.Fields.{Fields}
use Rattle.header_format.specs.Format.{header_bytes, magic_field, version_field, min_program_version_field, key_checksum_field, reserved_field}
use Rattle.header_format.specs.Format.{hidden_size_field, data_size_field, data_start_field, encrypted_size_field, flags_field, sector_size_field}
use Rattle.header_format.specs.Format.{more_reserved_field, header_checksum_field, keys_field, checked_field, vera, truecrypt, magic_number, version_rule}

-- the magic of a candidate
unfoldable pub magic_of : List ℕ → ℕ
magic_of h = magic_number (field_part magic_field h)

-- the numbers of the header; the min program version is the lab's "least program version"
unfoldable pub fields_of : List ℕ → Fields
fields_of h =
    record {
      version = big_endian (field_part version_field h);
      min_program_version = big_endian (field_part min_program_version_field h);
      hidden_size = big_endian (field_part hidden_size_field h);
      data_size = big_endian (field_part data_size_field h);
      data_start = big_endian (field_part data_start_field h);
      encrypted_size = big_endian (field_part encrypted_size_field h);
      flags = big_endian (field_part flags_field h);
      sector_size = big_endian (field_part sector_size_field h);
    }

-- both checksums are the CRC-32 of what they are of: the keys, and the fields from the magic on
unfoldable pub checksums_match : List ℕ → Bool
checksums_match h =
    eqb (crc32 (field_part keys_field h)) (big_endian (field_part key_checksum_field h))
    && eqb (crc32 (field_part checked_field h)) (big_endian (field_part header_checksum_field h))

-- the candidate is a header; only 512 bytes are
unfoldable pub is_header : List ℕ → Bool
is_header h = eqb (length h) header_bytes && leb (magic_of h) truecrypt && checksums_match h

-- line 6, what is reserved: no flag is set above bit 1, and with the magic VERA the bytes of both reserved fields are zero
unfoldable pub reserved_rule : ℕ → ℕ → List ℕ → Bool
reserved_rule magic flags h =
    eqb (flags / 4) 0 && cond (eqb magic vera) (all_zero (field_part reserved_field h) && all_zero (field_part more_reserved_field h)) true

-- line 7, neither a system volume nor one encrypted in place: flags bits 0 and 1 zero
unfoldable pub flags_rule : ℕ → Bool
flags_rule flags = eqb (flags % 4) 0

-- line 9, the hidden size H: 0 for a standard volume; for a hidden one not 0, and V
unfoldable pub hidden_size_rule : ℕ → ℕ → ℕ → Bool
hidden_size_rule kind hidden_size size =
    cond (eqb kind standard) (eqb hidden_size 0) (eqb kind hidden && not (eqb hidden_size 0) && eqb hidden_size size)

-- what an accepted candidate tells: the layout, with the candidate's index
unfoldable pub accepted_layout : ℕ → ℕ → ℕ → ℕ → Fields → Layout
accepted_layout kind host_size index magic f =
    record {
      host_size = host_size;
      kind = kind;
      magic = magic;
      version = f.version;
      min_program_version = f.min_program_version;
      data_start = f.data_start;
      data_size = f.data_size;
      candidate = index;
      sector_size = f.sector_size;
    }

-- line 10, the data area of that layout, with the encrypted size E equal to V
unfoldable pub area_rule : Layout → ℕ → Bool
area_rule layout encrypted_size = eqb encrypted_size layout.data_size && data_area_rule layout

-- the judgement of one candidate: 4 where it is no header, else by the first line that it breaks, and its layout where it keeps them all;
-- line 5 is the format's rule for versions, and line 8 the layout's for Z
unfoldable pub judge : ℕ → ℕ → ℕ → List ℕ → Answer Layout
judge kind host_size index h =
    let magic = magic_of h in
    let f = fields_of h in
    let layout = accepted_layout kind host_size index magic f in
    line (refuse 4) (is_header h)
    (line (refuse 5) (version_rule magic f.version)
    (line (refuse 6) (reserved_rule magic f.flags h)
    (line (refuse 7) (flags_rule f.flags)
    (line (refuse 8) (sector_size_rule f.sector_size)
    (line (refuse 9) (hidden_size_rule kind f.hidden_size f.data_size)
    (line (refuse 10) (area_rule layout f.encrypted_size) (Ok layout)))))))
