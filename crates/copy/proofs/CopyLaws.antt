-- What a copy leaves, with room for it and without.
-- Assumes nothing.
use Prim.Native.Nat.{ℕ, ◌+◌, ◌<◌, ◌≤◌}
use mathlib.Core.{Path.{◌≡◌}, List.{List}}
use lib.ListN.{length}
use borrow.Author.Tests.{le-leb, lt-leb}
use Rattle.fields.specs.Bytes.{overlay}
use Rattle.copy.specs.Copy.{copied}

pub copied_fits : (at : ℕ) (from to : List ℕ) → at + length from ≤ length to → copied at from to ≡ overlay at from to
unfolding copied
copied_fits at from to fits = simp (le-leb _ _ fits)

pub copied_none : (at : ℕ) (from to : List ℕ) → length to < at + length from → copied at from to ≡ to
unfolding copied
copied_none at from to none = simp (lt-leb _ _ none)
