-- The format of a header (RULES.md, Header bytes): where its fields stand, its magics and their versions, and the lengths that its parts
-- have. What the contracts of `header_format` cite, and those of what reads and writes headers. Assumes nothing.
use Rattle.std.specs.Prelude.{ℕ, ◌-◌}
use mathlib.Core.{Bool.{Bool, ◌&&◌, cond}, List.{List, [], ◌∷◌}}
use Rattle.std.specs.Prelude.{leb, eqb}
use Rattle.byte_tests.specs.Tests.{same_bytes}
use Rattle.fields.specs.declared.Field.{Field}

-- a candidate's size
abbrev pub header_bytes : ℕ
header_bytes = 512

-- where each field stands, in the rules' order: its offset and its size; every number in a field is big-endian
abbrev at : ℕ → ℕ → Field
at offset size = record { offset = offset; size = size }

abbrev pub salt_field : Field
salt_field = at 0 64

abbrev pub magic_field : Field
magic_field = at 64 4

abbrev pub version_field : Field
version_field = at 68 2

abbrev pub min_program_version_field : Field
min_program_version_field = at 70 2

abbrev pub key_checksum_field : Field
key_checksum_field = at 72 4

abbrev pub reserved_field : Field
reserved_field = at 76 16

abbrev pub hidden_size_field : Field
hidden_size_field = at 92 8

abbrev pub data_size_field : Field
data_size_field = at 100 8

abbrev pub data_start_field : Field
data_start_field = at 108 8

abbrev pub encrypted_size_field : Field
encrypted_size_field = at 116 8

abbrev pub flags_field : Field
flags_field = at 124 4

abbrev pub sector_size_field : Field
sector_size_field = at 128 4

abbrev pub more_reserved_field : Field
more_reserved_field = at 132 120

abbrev pub header_checksum_field : Field
header_checksum_field = at 252 4

abbrev pub keys_field : Field
keys_field = at 256 256

-- what the header checksum is of: from the magic up to that checksum
abbrev pub checked_field : Field
checked_field = at magic_field.offset (header_checksum_field.offset - magic_field.offset)

-- the magic of VeraCrypt, "VERA" in ASCII, and its number in a layout
abbrev pub vera_magic : List ℕ
vera_magic = 86 ∷ 69 ∷ 82 ∷ 65 ∷ []

abbrev pub vera : ℕ
vera = 0

-- the magic of TrueCrypt, "TRUE" in ASCII, and its number in a layout
abbrev pub true_magic : List ℕ
true_magic = 84 ∷ 82 ∷ 85 ∷ 69 ∷ []

abbrev pub truecrypt : ℕ
truecrypt = 1

-- which magic (the lab's "mark") four bytes spell: VERA, TRUE, or neither, which is 2
unfoldable pub magic_number : List ℕ → ℕ
magic_number bytes = cond (same_bytes bytes vera_magic) vera (cond (same_bytes bytes true_magic) truecrypt 2)

-- the versions: from 2 to 5 with the magic VERA, 4 or 5 with TRUE
unfoldable pub version_rule : ℕ → ℕ → Bool
version_rule magic version = leb version 5 && cond (eqb magic vera) (leb 2 version) (leb 4 version)

-- the lengths of a new header: salt and keys fill their fields, and there is room for the header and no more
unfoldable pub new_lengths_rule : ℕ → ℕ → ℕ → Bool
new_lengths_rule salt_size keys_size header_size =
    eqb salt_size salt_field.size && eqb keys_size keys_field.size && eqb header_size header_bytes
