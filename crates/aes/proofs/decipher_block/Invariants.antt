-- `aes::decipher_block` meets its contract. The loop's invariant: what the rounds below r make of the state is the result.
use Rattle.std.proofs.Common.{◌≡◌, ◌-◌, ◌≤◌}
use Rattle.aes_tables.specs.SBox.{ByTables}
use Rattle.aes.specs.Cipher.{inv_rounds}
use Rattle.aes.proofs.decipher_block.Given as goal

abbrev pub invariant-loop-r : goal.invariant-loop-r
invariant-loop-r l = (1 ≤ l.r) × ByTables l.tables (inv_rounds l.keys (l.r - 1) l.state ≡ inv_rounds l.keys 13 l.initial.state)
