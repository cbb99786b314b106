-- The tables of CRC-32: what the private function `crc_tables` of `crc32` hands out. Assumes nothing.
use Rattle.std.specs.Prelude.{ℕ, zero, suc, List, [], ◌++◌, map}
use Rattle.bits.specs.Bits.{entries}
use Rattle.crc32.specs.Crc32.{bit_steps}

-- n tables one behind the other, from a table on: each later entry is what eight more bits make of the one before
unfoldable pub tables_from : ℕ → List ℕ → List ℕ
tables_from zero t = []
tables_from (suc n) t = t ++ tables_from n (map (bit_steps 8) t)

-- the four tables: what 8, 16, 24 and 32 bits make of each number below 256
unfoldable pub crc_tables : List ℕ
crc_tables = tables_from 4 (entries (bit_steps 8) 256 0)
