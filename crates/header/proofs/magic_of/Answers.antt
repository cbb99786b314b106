-- `header::magic_of` meets its contract.
use mathlib.Core.Path.{ap, ◌∙◌}
use Rattle.header_format.specs.Format.{magic_number}
use Rattle.header.specs.Header.{magic_of}
use Rattle.header.proofs.magic_of.Goals as goal

pub returns : goal.returns
unfolding magic_of
returns c = c.magic_number.ensures ∙ ap magic_number c.field_bytes.ensures
