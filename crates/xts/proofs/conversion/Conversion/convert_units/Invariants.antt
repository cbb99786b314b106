-- `xts::conversion::Conversion::convert_units` meets its contract. The loop's invariant: what is done, and what the units that are left give, is the result.
use Rattle.std.proofs.Common.{◌≡◌, ◌+◌, ◌-◌, ◌*◌, ◌/◌, ◌++◌, length, take, drop}
use Rattle.xts.specs.{Runs.in_units, Units.{converted_by}}
use Rattle.xts.proofs.conversion.Conversion.convert_units.Given as goal

abbrev pub invariant-loop-i : goal.invariant-loop-i
invariant-loop-i l =
    let form = converted_by l.self.direction l.self.for_data.now l.self.for_tweaks.now in
    let count = length l.from / 512 in
    (length l.into ≡ length l.from)
    × (take (512 * l.i) l.into ++ in_units form (count - l.i) (l.number + l.i) (drop (512 * l.i) l.from) ≡ in_units form count l.number l.from)
