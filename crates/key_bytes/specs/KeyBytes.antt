-- The key bytes of an accepted candidate (RULES.md, Opening): what the contract of `key_bytes::key_bytes` cites. Assumes nothing.
use Rattle.std.specs.Prelude.{ℕ, ◌+◌, ◌*◌, Ok, Err}
use mathlib.Core.{Path.◌≡◌, List.List}
use Rattle.fields.specs.Bytes.{part}
use Rattle.header_format.specs.Format.{header_bytes, keys_field}
use Rattle.answers.specs.Answers.{Answer}
use Rattle.layout.specs.declared.Layout.{Layout}

-- where the key bytes stand in the candidates: in their field of the accepted one, and at the start where opening refuses
unfoldable pub keys_offset : Answer Layout → ℕ
keys_offset (Ok layout) = layout.candidate * header_bytes + keys_field.offset
keys_offset (Err refusal) = 0

-- how many key bytes there are: those of the field, and none where opening refuses
unfoldable pub keys_size : Answer Layout → ℕ
keys_size (Ok layout) = keys_field.size
keys_size (Err refusal) = 0

-- the key bytes: what they hold, and that they are that part of the candidates itself, at its address: block, and offset there
pub record KeyBytes (answer : Answer Layout) (candidates : List ℕ) (borrowed : ℕ × ℕ) (keys : List ℕ) (returned : ℕ × ℕ) : Type 0 where
  pub content : keys ≡ part (keys_offset answer) (keys_size answer) candidates
  pub address : returned ≡ (borrowed.0, keys_offset answer + borrowed.1)
