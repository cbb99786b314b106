-- Units one behind the other, each with its own number: what the contracts of `xts` cite of more than one. Assumes nothing.
use Rattle.std.specs.Prelude.{ℕ, zero, suc, ◌+◌, ◌/◌, ◌%◌, ◌^◌}
use mathlib.Core.{Bool.{Bool, ◌&&◌, cond}, List.{List, [], ◌++◌}}
use lib.{Dec.{eqb, ltb}, ListN.{length, take, drop}}
use Rattle.aes.specs.declared.Direction.{Direction}
use Rattle.xts.specs.Units.{converted}

-- n units of bytes, each in another form, which has its number: a number on, and each next one
unfoldable pub in_units : (ℕ → List ℕ → List ℕ) → ℕ → ℕ → List ℕ → List ℕ
in_units form zero number bytes = []
in_units form (suc n) number bytes = form number (take 512 bytes) ++ in_units form n (suc number) (drop 512 bytes)

-- whole units, as long as what they go into, whose numbers have 64 bits
unfoldable pub fits_run : ℕ → List ℕ → List ℕ → Bool
fits_run number from into = eqb (length from) (length into) && eqb (length from % 512) 0 && ltb (number + length from / 512) (2 ^ 64)

-- bytes after a run into them: the units of others, converted; where these do not fit, as they were
unfoldable pub converted_run : Direction → List ℕ → ℕ → List ℕ → List ℕ → List ℕ
converted_run direction key number from into =
    cond (fits_run number from into) (in_units (converted direction key) (length from / 512) number from) into
