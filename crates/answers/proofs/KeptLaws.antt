-- Checks in order: what the answer is where a line is kept, and where it is broken. Assumes nothing.
use mathlib.Core.{Path.◌≡◌, Bool.{Bool, true, false}}
use Rattle.answers.specs.Answers.{line}

module _ {A : Type 0} {kept : Bool} (refused later : A) where
  pub line_kept : {answer : A} → kept ≡ true → later ≡ answer → line refused kept later ≡ answer
  line_kept e f = rw e f

  pub line_broken : kept ≡ false → line refused kept later ≡ refused
  line_broken e = rw e
