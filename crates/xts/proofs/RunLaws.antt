-- What a run leaves, by the tests of what it is given. Assumes nothing.
use Prim.Native.Nat.{ℕ, ◌+◌, ◌/◌, ◌%◌, ◌^◌, ◌≤◌, ◌<◌}
use mathlib.Core.{Path.◌≡◌, List.List}
use lib.ListN.{length}
use borrow.Author.Tests.{eq-eqb, ne_eqb, lt-ltb, le-ltb}
use Rattle.aes.specs.declared.Direction.{Direction}
use Rattle.xts.specs.{Runs.{in_units, fits_run, converted_run}, Units.converted}

module _ (direction : Direction) (key : List ℕ) (number : ℕ) (from into : List ℕ) where
  pub run_of_other_length : (length from ≡ length into → ⊥) → into ≡ converted_run direction key number from into
  unfolding converted_run fits_run
  run_of_other_length differs = simp (ne_eqb (length from) (length into) differs)

  pub run_of_parts : length from ≡ length into → (length from % 512 ≡ 0 → ⊥) → into ≡ converted_run direction key number from into
  unfolding converted_run fits_run
  run_of_parts same part = simp (eq-eqb (length from) (length into) same, ne_eqb (length from % 512) 0 part)

  pub run_past_numbers : length from ≡ length into → length from % 512 ≡ 0 → 2 ^ 64 ≤ number + length from / 512
      → into ≡ converted_run direction key number from into
  unfolding converted_run fits_run
  run_past_numbers same whole past =
      simp (eq-eqb (length from) (length into) same, eq-eqb (length from % 512) 0 whole, le-ltb (number + length from / 512) (2 ^ 64) past)

  pub run_fits : length from ≡ length into → length from % 512 ≡ 0 → number + length from / 512 < 2 ^ 64
      → in_units (converted direction key) (length from / 512) number from ≡ converted_run direction key number from into
  unfolding converted_run fits_run
  run_fits same whole few =
      simp (eq-eqb (length from) (length into) same, eq-eqb (length from % 512) 0 whole, lt-ltb (number + length from / 512) (2 ^ 64) few)
