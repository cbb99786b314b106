-- Parts of a list of bytes, and bytes laid over others: what the fields of a header are made of. Assumes nothing.
use Rattle.std.specs.Prelude.{ℕ, ◌+◌, List, ◌++◌, length, take, drop}
use Rattle.fields.specs.declared.Field.{Field}

-- the size bytes from an offset on; what would lie past the end is left out
abbrev pub part : ℕ → ℕ → List ℕ → List ℕ
part offset size bytes = take size (drop offset bytes)

-- the bytes of a field
abbrev pub field_part : Field → List ℕ → List ℕ
field_part field bytes = part field.offset field.size bytes

-- bytes laid over others from an offset on
unfoldable pub overlay : ℕ → List ℕ → List ℕ → List ℕ
overlay offset content bytes = take offset bytes ++ content ++ drop (offset + length content) bytes
