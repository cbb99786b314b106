-- `aes_steps::add_round_key` meets its contract.
use mathlib.Core.List.{[], ◌∷◌}
use Rattle.bits.specs.Bits.{entries}
use Rattle.aes_steps.specs.Blocks.{byte_at, block, add_round_key}
use Rattle.aes_words.specs.Words.{word, add_word}
use Rattle.aes_steps.proofs.add_round_key.Goals as goal

pub returns : goal.returns
unfolding add_round_key block byte_at add_word word entries
returns c =
    λ i. c.add_word.ensures i ∷ c.add_word-2.ensures i ∷ c.add_word-3.ensures i ∷ c.add_word-4.ensures i ∷ []
