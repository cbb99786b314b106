-- `xts::conversion::Conversion::convert_unit` meets its contract. The loop's invariant: what is done, and what the blocks that are left give, is the result.
use Rattle.std.proofs.Common.{◌≡◌, ◌-◌, ◌*◌, ◌++◌, length, take, drop}
use Rattle.aes.specs.Cipher.{through_cipher}
use Rattle.xts.specs.Units.{blocks_under}
use Rattle.xts.proofs.conversion.Conversion.convert_unit.Given as goal

abbrev pub invariant-loop-i : goal.invariant-loop-i
invariant-loop-i l =
    let through = through_cipher l.self.direction l.self.for_data.now in
    (length l.into ≡ 512)
    × (take (16 * l.i) l.into ++ blocks_under through (32 - l.i) l.tweak (drop (16 * l.i) l.from) ≡ blocks_under through 32 l.initial.tweak l.from)
