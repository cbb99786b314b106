-- `xts::convert` meets its contract: a unit is a run of one.
use Rattle.std.proofs.Common.{rules, ◌≡◌, length, ◌∙◌}
use Rattle.xts.specs.Units.{converted}
use Rattle.xts.proofs.UnitLaws.{one_unit}
use Rattle.xts.proofs.convert.Goals as goal

pub returns : goal.returns
returns c =
    let a = c.args in
    let whole : length a.unit ≡ 512 = search rules in
    c.convert_units.ensures ∙ one_unit (converted a.direction a.key) a.number a.unit whole
