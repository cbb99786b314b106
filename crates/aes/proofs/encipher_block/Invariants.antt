-- `aes::encipher_block` meets its contract. The loop's invariant: the state is that after the rounds before r.
use Rattle.std.proofs.Common.{◌≡◌, ◌-◌}
use Rattle.aes_tables.specs.SBox.{ByTables}
use Rattle.aes.specs.Cipher.{rounds}
use Rattle.aes.proofs.encipher_block.Given as goal

abbrev pub invariant-loop-r : goal.invariant-loop-r
invariant-loop-r l = ByTables l.tables (l.state ≡ rounds l.keys (l.r - 1) l.initial.state)
