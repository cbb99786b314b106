-- `tweaks::tweak_block` meets its contract: sixteen little-endian bytes of a number below 2^64 are eight, and zeros.
use Prim.Native.Nat.{ℕ, ◌^◌, ◌<◌}
use mathlib.Core.{List.List, Path.{ap, sym, ◌∙◌}}
use native.Mathlib.Omega.{arith}
use Rattle.std.specs.Prelude.{Ok}
use Rattle.answers.specs.Answers.{Answer}
use Rattle.tweaks.specs.{declared.Tweak.Tweak, Tweaks.{tweak_of, block_of}}
use Rattle.numbers.proofs.WrittenLaws.{little_endian_bytes_pad}
use Rattle.tweaks.proofs.tweak_block.Goals as goal

-- a tweak, from its parts
abbrev tweak : Answer ℕ → List ℕ → Tweak
tweak number block = record { number = number; block = block }

pub returns-in-Ok : goal.returns-in-Ok
unfolding tweak_of block_of
returns-in-Ok c =
    let value = c.in-Ok.value in
    let small : value < 256 ^ 8 = omega arith in
    rw (sym c.tweak_number-number.ensures ∙ c.in-Ok.is)
    (ap (tweak (Ok value)) (c.write_little_endian.ensures ∙ little_endian_bytes_pad 8 8 value small))

pub returns-in_default : goal.returns-in_default
unfolding tweak_of block_of
returns-in_default c = rw (← c.tweak_number-number.ensures, c.in_default.is)
