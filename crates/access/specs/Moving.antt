-- What reads and writes move (RULES.md, Reads and writes): the buffer and the image after a call by its answer. What the contracts of
-- `access` cite. Assumes nothing.
use Rattle.std.specs.Prelude.{ℕ, ◌*◌, take, drop, ⊤}
use mathlib.Core.{Bool.cond, List.List}
use Rattle.fields.specs.Bytes.{overlay}
use Rattle.answers.specs.Answers.{is_accepted, Answer}
use Rattle.layout.specs.{Rules.sector_bytes, declared.Layout.Layout}
use Rattle.judgement.specs.Offsets.{extent_start}

-- the buffer after a read: filled with the extent's bytes, or as it was
unfoldable pub filled_by : Answer ⊤ → Layout → List ℕ → ℕ → ℕ → List ℕ → List ℕ
filled_by answer layout image first count buffer =
    cond (is_accepted answer) (take (count * sector_bytes) (drop (extent_start layout first) image)) buffer

-- the image after a write: the buffer laid over the extent's bytes, or as it was
unfoldable pub written_by : Answer ⊤ → Layout → List ℕ → ℕ → List ℕ → List ℕ
written_by answer layout image first buffer = cond (is_accepted answer) (overlay (extent_start layout first) buffer image) image
