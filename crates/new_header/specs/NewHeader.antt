-- A new header (RULES.md, Writing headers): its 512 bytes, laid field by field. What the contracts of `new_header` cite. Assumes nothing.
use Rattle.std.specs.Prelude.{ℕ}
use mathlib.Core.{Bool.cond, List.{List, [], ◌∷◌}}
use lib.{Dec.eqb, ListN.{length, replicate}}
use Rattle.fields.specs.{Bytes.{field_part, overlay}, declared.Field.Field}
use Rattle.numbers.specs.Numbers.{big_endian_bytes}
use Rattle.crc32.specs.Crc32.{crc32}
use Rattle.layout.specs.{Rules.hidden, declared.Layout.Layout}
use Rattle.header_format.specs.Format.{header_bytes, salt_field, magic_field, version_field, min_program_version_field, key_checksum_field, hidden_size_field}
use Rattle.header_format.specs.Format.{data_size_field, data_start_field, encrypted_size_field, flags_field, sector_size_field, header_checksum_field}
use Rattle.header_format.specs.Format.{keys_field, checked_field, vera, vera_magic, true_magic, new_lengths_rule}
use Rattle.header_format.specs.declared.Fields.{Fields}

-- the bytes that spell a layout's magic
unfoldable pub magic_bytes : ℕ → List ℕ
magic_bytes magic = cond (eqb magic vera) vera_magic true_magic

-- the numbers of a new header: H is V for a hidden volume and 0 for a standard one, E is V, and no flag is set
unfoldable pub new_fields : Layout → Fields
new_fields layout =
    record {
      version = layout.version;
      min_program_version = layout.min_program_version;
      hidden_size = cond (eqb layout.kind hidden) layout.data_size 0;
      data_size = layout.data_size;
      data_start = layout.data_start;
      encrypted_size = layout.data_size;
      flags = 0;
      sector_size = layout.sector_size;
    }

-- a field and its bytes, which spell a number
abbrev pub spelling : Field → ℕ → Field × List ℕ
spelling field number = (field, big_endian_bytes field.size number)

-- the fields that hold numbers, with their bytes
unfoldable pub number_contents : Fields → List (Field × List ℕ)
number_contents f =
    spelling version_field f.version
    ∷ spelling min_program_version_field f.min_program_version
    ∷ spelling hidden_size_field f.hidden_size
    ∷ spelling data_size_field f.data_size
    ∷ spelling data_start_field f.data_start
    ∷ spelling encrypted_size_field f.encrypted_size
    ∷ spelling flags_field f.flags
    ∷ spelling sector_size_field f.sector_size
    ∷ []

-- all fields but the checksums, with their bytes
unfoldable pub contents : Layout → List ℕ → List ℕ → List (Field × List ℕ)
contents layout salt keys =
    (salt_field, salt) ∷ (magic_field, magic_bytes layout.magic) ∷ (keys_field, keys) ∷ number_contents (new_fields layout)

-- each field's bytes laid over the header, at the field's offset
unfoldable pub laid : List (Field × List ℕ) → List ℕ → List ℕ
laid [] h = h
laid (content ∷ rest) h = laid rest (overlay content.0.offset content.1 h)

-- the checksum of one field's bytes, laid into another
unfoldable pub summed : Field → Field → List ℕ → List ℕ
summed of into h = overlay into.offset (big_endian_bytes into.size (crc32 (field_part of h))) h

-- the header: zeros, over them the fields, then the checksum of the keys, and last that of the fields, which takes in the other checksum
unfoldable pub new_header : Layout → List ℕ → List ℕ → List ℕ
new_header layout salt keys =
    summed checked_field header_checksum_field (summed keys_field key_checksum_field (laid (contents layout salt keys) (replicate header_bytes 0)))

-- what is left where a new header is laid: the header, and where the lengths are wrong the bytes as they were
unfoldable pub header_over : Layout → List ℕ → List ℕ → List ℕ → List ℕ
header_over layout salt keys before = cond (new_lengths_rule (length salt) (length keys) (length before)) (new_header layout salt keys) before
