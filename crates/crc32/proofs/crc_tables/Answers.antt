-- `crc32::crc_tables` meets its contract: antt computes the entries of `crc_tables`, and they are those of the constant.
use mathlib.Core.Path.{refl}
use Rattle.crc32.specs.{Crc32.{bit_step, bit_steps}, Tables.{tables_from, crc_tables}}
use Rattle.bits.specs.Bits.{entries}
use Rattle.crc32.proofs.crc_tables.Goals as goal

pub returns : goal.returns
unfolding crc_tables tables_from entries bit_steps bit_step
returns c = refl
