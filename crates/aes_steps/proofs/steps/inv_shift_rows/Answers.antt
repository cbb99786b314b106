-- `aes_steps::steps::inv_shift_rows` meets its contract.
use Rattle.std.proofs.Common.{[], ◌∷◌}
use Rattle.bits.specs.Bits.{entries}
use Rattle.aes_steps.specs.Blocks.{byte_at, block, inv_shift_rows}
use Rattle.aes_words.specs.Words.{word}
use Rattle.aes_steps.proofs.steps.inv_shift_rows.Goals as goal

pub returns : goal.returns
unfolding inv_shift_rows block byte_at word entries
returns c =
    λ i. c.diagonal.ensures i ∷ c.diagonal-2.ensures i ∷ c.diagonal-3.ensures i ∷ c.diagonal-4.ensures i ∷ []
