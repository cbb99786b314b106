-- Bytes laid over others. What the contract of `copy::lay` cites. Assumes nothing.
use Rattle.std.specs.Prelude.{ℕ, ◌+◌}
use mathlib.Core.{Bool.cond, List.List}
use lib.{Dec.leb, ListN.length}
use Rattle.fields.specs.Bytes.{overlay}

-- what is left of bytes that others are laid over from an offset on; more than there is room for change nothing
unfoldable pub copied : ℕ → List ℕ → List ℕ → List ℕ
copied at from to = cond (leb (at + length from) (length to)) (overlay at from to) to
