-- The map program's input (RULES.md, Map program): what the contract of `open_input` cites. Assumes nothing.
use Rattle.std.specs.Prelude.{ℕ}
use mathlib.Core.{Bool.cond, List.List}
use lib.{Dec.eqb, ListN.length}
use Rattle.fields.specs.Bytes.{part}
use Rattle.numbers.specs.Numbers.{big_endian}
use Rattle.opening.specs.Opening.{opened}
use Rattle.answers.specs.Answers.{Answer, refuse}
use Rattle.layout.specs.declared.Layout.{Layout}

-- the size of the input: S in 8 bytes, one location code, one candidate of 512 bytes, and nothing more
abbrev pub input_bytes : ℕ
input_bytes = 521

-- what opening answers for the candidate, its code and S; 1 for any other length
unfoldable pub opened_input : List ℕ → Answer Layout
opened_input input =
    cond (eqb (length input) input_bytes) (opened (part 9 512 input) (part 8 1 input) (big_endian (part 0 8 input))) (refuse 1)
