-- What the contract of `keys` cites (RULES.md, Boundary). Assumes nothing.
use Rattle.std.specs.Prelude.{ℕ, List, [], ◌∷◌, Ok, Err}
use Rattle.key_bytes.specs.KeyBytes.{keys_offset, keys_size}
use Rattle.answers.specs.Answers.{Answer}
use Rattle.layout.specs.declared.Layout.{Layout}

-- what the call for the key bytes leaves: their offset and length within the candidates, or the numbers as they were
unfoldable pub keys_left : Answer Layout → List ℕ → List ℕ
keys_left (Ok layout) before = keys_offset (Ok layout) ∷ keys_size (Ok layout) ∷ []
keys_left (Err refusal) before = before
