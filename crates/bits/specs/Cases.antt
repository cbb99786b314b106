-- Tables of cases: each row has what definitions give, and what the rules say. Assumes nothing.
use Rattle.std.specs.Prelude.{ℕ}
use mathlib.Core.{Path.◌≡◌, List.{List, map}}

-- the rows of a table
abbrev pub Rows : Type 0
Rows = List (List ℕ × List ℕ)

-- every row is as the rules say
abbrev pub Right : Rows → Type 0
Right rows = map (λ row. row.0) rows ≡ map (λ row. row.1) rows
