-- Where in the host a call finds its bytes (RULES.md, Reads and writes): what the contracts of `judgement` cite, and those of `access`
-- above it. Assumes nothing.
use Rattle.std.specs.Prelude.{ℕ, ◌+◌, ◌*◌, Ok, Err, ⊤}
use Rattle.layout.specs.{Rules.sector_bytes, declared.Layout.Layout}
use Rattle.answers.specs.Answers.{Answer}

-- the first byte of an extent in the host: O and 512 for each user sector before it
unfoldable pub extent_start : Layout → ℕ → ℕ
extent_start layout first = layout.data_start + first * sector_bytes

-- the extent's first byte where an answer accepts, else the refusal
unfoldable pub placed_by : Answer ⊤ → Layout → ℕ → Answer ℕ
placed_by (Ok done) layout first = Ok (extent_start layout first)
placed_by (Err refusal) layout first = Err refusal
