-- `header_format::magic_number` meets its contract: the two words are the magics of the definition.
use mathlib.Core.Path.{refl, sym, ◌∙◌}
use Rattle.header_format.specs.Format.{magic_number}
use Rattle.header_format.proofs.magic_number.Goals as goal

pub returns-then-same_bytes : goal.returns-then-same_bytes
unfolding magic_number
returns-then-same_bytes c = rw (sym c.same_bytes.ensures ∙ c.if-same_bytes.true) refl

pub returns-then-same_bytes-2 : goal.returns-then-same_bytes-2
unfolding magic_number
returns-then-same_bytes-2 c =
    rw (sym c.same_bytes.ensures ∙ c.if-same_bytes.false, sym c.same_bytes-2.ensures ∙ c.if-same_bytes-2.true) refl

pub returns : goal.returns
unfolding magic_number
returns c =
    rw (sym c.same_bytes.ensures ∙ c.if-same_bytes.false, sym c.same_bytes-2.ensures ∙ c.if-same_bytes-2.false) refl
