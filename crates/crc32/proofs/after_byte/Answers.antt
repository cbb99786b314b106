-- `crc32::after_byte` meets its contract: an entry of the first table and a shift are eight bits.
use lib.Bits.{bit_xor}
use Rattle.crc32.proofs.CrcTableLaws.{table_byte}
use Rattle.crc32.proofs.after_byte.Goals as goal

pub returns : goal.returns
returns c = rw (c.crc_tables-tables.ensures, c.from.ensures) (table_byte (bit_xor c.args.byte.now c.args.crc))
