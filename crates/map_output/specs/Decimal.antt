-- A number of 64 bits in decimal, in ASCII: what the contracts of `map_output` cite. Assumes nothing.
use Rattle.std.specs.Prelude.{ℕ, zero, suc, ◌+◌, ◌/◌, ◌%◌, ◌<◌}
use mathlib.Core.{Path.◌≡◌, Bool.cond, List.{List, [], ◌∷◌, ◌++◌}}
use lib.{Dec.eqb, ListN.{length, drop}}

-- a number's last digits, the most significant first: at most so many, and none for 0
unfoldable pub digits : ℕ → ℕ → List ℕ
digits zero number = []
digits (suc most) number = cond (eqb number 0) [] (digits most (number / 10) ++ ((48 + number % 10) ∷ []))

-- a number in decimal: of 64 bits there are at most twenty digits, the last of which stands for 0 too
unfoldable pub decimal : ℕ → List ℕ
decimal number = digits 19 (number / 10) ++ ((48 + number % 10) ∷ [])

-- twenty bytes that end with a number in decimal, which starts at a position
pub record Spelled (number : ℕ) (bytes : List ℕ) (first : ℕ) : Type 0 where
  pub size : length bytes ≡ 20
  pub start : first < 20
  pub content : drop first bytes ≡ decimal number
