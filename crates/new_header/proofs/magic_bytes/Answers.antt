-- `new_header::magic_bytes` meets its contract: the two words are the magics of the definition.
use borrow.Author.Tests.{eq-eqb, ne_eqb}
use Rattle.new_header.specs.NewHeader.{magic_bytes}
use Rattle.new_header.proofs.magic_bytes.Goals as goal

pub returns-then-magic-eq-VERA : goal.returns-then-magic-eq-VERA
unfolding magic_bytes
returns-then-magic-eq-VERA c = simp (eq-eqb _ _ c.if-magic-eq-VERA.true)

pub returns-else-magic-eq-VERA : goal.returns-else-magic-eq-VERA
unfolding magic_bytes
returns-else-magic-eq-VERA c = simp (ne_eqb _ _ c.if-magic-eq-VERA.false)
