-- `header_format::keeps_version` meets its contract.
use mathlib.Core.Path.{refl}
use borrow.Author.Tests.{eq-eqb, ne_eqb, le-leb, lt-leb}
use Rattle.header_format.specs.Format.{version_rule}
use Rattle.header_format.proofs.keeps_version.Goals as goal

pub returns-then-version-gt5 : goal.returns-then-version-gt5
unfolding version_rule
returns-then-version-gt5 c = rw (lt-leb _ _ c.if-version-gt5.true) refl

pub returns-then-magic-eq-VERA : goal.returns-then-magic-eq-VERA
unfolding version_rule
returns-then-magic-eq-VERA c = rw (le-leb _ _ c.if-version-gt5.false, eq-eqb _ _ c.if-magic-eq-VERA.true) refl

pub returns : goal.returns
unfolding version_rule
returns c = rw (le-leb _ _ c.if-version-gt5.false, ne_eqb _ _ c.if-magic-eq-VERA.false) refl
