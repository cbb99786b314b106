-- `aes_words::sub_word` meets its contract.
use Rattle.std.proofs.Common.{ℕ, List, [], ap, get_or}
use Rattle.bits.specs.Bits.{entries}
use Rattle.aes_tables.specs.SBox.{substituted, cipher_tables}
use Rattle.aes_words.specs.Words.{sub_word, each_byte, word}
use Rattle.aes_words.proofs.sub_word.Goals as goal

pub returns : goal.returns
unfolding sub_word each_byte word entries cipher_tables
returns c tables = c.looked_up.ensures substituted (ap (λ (t : List (List ℕ)). get_or t 0 []) tables)
