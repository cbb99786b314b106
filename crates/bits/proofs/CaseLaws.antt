-- Tables of cases in parts. Assumes nothing.
use mathlib.Core.{Path.{sym, ◌∙◌}, List.{◌++◌, map-append}}
use Rattle.bits.specs.Cases.{Rows, Right}

-- two parts of a table make one
pub join : (a b : Rows) → Right a → Right b → Right (a ++ b)
join a b f g = map-append (λ row. row.0) a b ∙ (λ i. f i ++ g i) ∙ sym (map-append (λ row. row.1) a b)
