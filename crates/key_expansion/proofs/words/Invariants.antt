-- `key_expansion::words` meets its contract. The loop's invariant: the first i words are grown from the first eight.
use mathlib.Core.Path.{◌≡◌}
use Prim.Native.Nat.{◌-◌}
use lib.{ListN.{length, take}}
use Rattle.aes_tables.specs.SBox.{ByTables}
use Rattle.key_expansion.specs.KeyExpansion.{grown}
use Rattle.key_expansion.proofs.words.Given as goal

abbrev pub invariant-loop-i : goal.invariant-loop-i
invariant-loop-i l = (length l.words ≡ 60) × ByTables l.tables (take l.i l.words ≡ grown (l.i - 8) (take 8 l.initial.words))
