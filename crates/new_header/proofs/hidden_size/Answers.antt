-- `new_header::hidden_size` meets its contract.
use mathlib.Core.Path.{refl}
use borrow.Author.Tests.{eq-eqb, ne_eqb}
use Rattle.new_header.specs.NewHeader.{new_fields}
use Rattle.new_header.proofs.hidden_size.Goals as goal

pub returns-then-layout-eq-HIDDEN : goal.returns-then-layout-eq-HIDDEN
unfolding new_fields
returns-then-layout-eq-HIDDEN c = rw (eq-eqb _ _ c.if-layout-eq-HIDDEN.true) refl

pub returns-else-layout-eq-HIDDEN : goal.returns-else-layout-eq-HIDDEN
unfolding new_fields
returns-else-layout-eq-HIDDEN c = rw (ne_eqb _ _ c.if-layout-eq-HIDDEN.false) refl
