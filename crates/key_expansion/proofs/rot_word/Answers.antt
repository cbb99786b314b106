-- `key_expansion::rot_word` meets its contract.
use mathlib.Core.Path.{refl}
use Rattle.bits.specs.Bits.{entries}
use Rattle.aes_words.specs.Words.{word}
use Rattle.key_expansion.specs.KeyExpansion.{rot_word}
use Rattle.key_expansion.proofs.rot_word.Goals as goal

pub returns : goal.returns
unfolding rot_word word entries
returns c = refl
