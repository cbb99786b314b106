-- `aes_steps::steps::inv_sub_bytes` meets its contract.
use mathlib.Core.List.{[], ◌∷◌}
use Rattle.bits.specs.Bits.{entries}
use Rattle.aes_steps.specs.Blocks.{byte_at, block, inv_sub_bytes}
use Rattle.aes_words.specs.Words.{word, each_byte}
use Rattle.aes_steps.proofs.steps.inv_sub_bytes.Goals as goal

pub returns : goal.returns
unfolding inv_sub_bytes block byte_at each_byte word entries
returns c tables =
    λ i. c.restore_word.ensures tables i ∷ c.restore_word-2.ensures tables i ∷ c.restore_word-3.ensures tables i ∷ c.restore_word-4.ensures tables i ∷ []
