use Rattle.std.proofs.Common.{rules, arith, ℕ, List, ◌≡◌, ◌+◌, ◌-◌, ◌*◌, ◌/◌, ◌++◌, length, take, drop, ap, ap₂, ◌∙◌}
use Rattle.fields.proofs.OverlayLaws.{length_overlay, part_laid}
use Rattle.xts.specs.{Runs.in_units, Units.{converted_by}}
use Rattle.xts.proofs.UnitLaws.{next_unit, units_done, length_converted_by}
use Rattle.xts.proofs.conversion.Conversion.convert_units.Goals as goal

pub loop-i-init : goal.loop-i-init
loop-i-init c =
    let self = c.args.self.now in
    let from : List ℕ = c.args.from.now in
    let form = converted_by self.direction self.for_data.now self.for_tweaks.now in
    let all : length from / 512 - 0 ≡ length from / 512 = omega arith in
    let first : c.args.number + 0 ≡ c.args.number = omega arith in
    (search rules, ap₂ (λ (n k : ℕ). in_units form n k from) all first)

pub loop-i-preserved : goal.loop-i-preserved
loop-i-preserved c =
    let loop = c.loop-i in
    let self = c.args.self.now in
    let from : List ℕ = c.args.from.now in
    let at = 512 * loop.i in
    let count = length from / 512 in
    let form = converted_by self.direction self.for_data.now self.for_tweaks.now in
    let cut : at + 512 - at ≡ 512 = omega arith in
    let content : List ℕ = c.convert_unit.new.into in
    let is = c.convert_unit.ensures ∙ ap (λ (n : ℕ). form (c.args.number + loop.i) (take n (drop at from))) cut in
    let sector = ap length is ∙ length_converted_by self.direction self.for_data.now self.for_tweaks.now (c.args.number + loop.i) (take 512 (drop at from)) in
    let laid = part_laid at 512 content loop.into sector in
    let long : length loop.into ≡ 512 * count = omega arith in (
      ap length laid ∙ length_overlay at content loop.into (omega (arith, sector)) ∙ loop.invariant.0,
      ap (λ (bytes : List ℕ). take (512 * (loop.i + 1)) bytes ++ in_units form (count - (loop.i + 1)) (c.args.number + (loop.i + 1)) (drop (512 * (loop.i + 1)) from)) laid
          ∙ next_unit form loop.i count c.args.number from loop.into content (omega arith) long sector is
          ∙ loop.invariant.1,
    )

pub returns : goal.returns
returns c =
    let loop = c.loop-i in
    let self = c.args.self.now in
    let from : List ℕ = c.args.from.now in
    let count = length from / 512 in
    let form = converted_by self.direction self.for_data.now self.for_tweaks.now in
    units_done form loop.i count (c.args.number + loop.i) _ loop.into (omega arith) (omega arith)
    ∙ loop.invariant.1
