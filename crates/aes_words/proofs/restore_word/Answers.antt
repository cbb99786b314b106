-- `aes_words::restore_word` meets its contract.
use Rattle.std.proofs.Common.{ℕ, List, [], ap, get_or}
use Rattle.bits.specs.Bits.{entries}
use Rattle.aes_tables.specs.SBox.{restored, cipher_tables}
use Rattle.aes_words.specs.Words.{each_byte, word}
use Rattle.aes_words.proofs.restore_word.Goals as goal

pub returns : goal.returns
unfolding each_byte word entries cipher_tables
returns c tables = c.looked_up.ensures restored (ap (λ (t : List (List ℕ)). get_or t 1 []) tables)
