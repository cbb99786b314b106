-- `aes_steps::steps::sub_bytes` meets its contract.
use mathlib.Core.List.{[], ◌∷◌}
use Rattle.bits.specs.Bits.{entries}
use Rattle.aes_steps.specs.Blocks.{byte_at, block, sub_bytes}
use Rattle.aes_words.specs.Words.{word, each_byte, sub_word}
use Rattle.aes_steps.proofs.steps.sub_bytes.Goals as goal

pub returns : goal.returns
unfolding sub_bytes block byte_at sub_word each_byte word entries
returns c tables =
    λ i. c.sub_word.ensures tables i ∷ c.sub_word-2.ensures tables i ∷ c.sub_word-3.ensures tables i ∷ c.sub_word-4.ensures tables i ∷ []
