-- `aes_mixing::mix_column` meets its contract.
use Rattle.std.proofs.Common.{[], ◌∷◌}
use Rattle.bits.specs.Bits.{entries}
use Rattle.aes_words.specs.Words.{word}
use Rattle.aes_mixing.specs.Mixing.{mixed_word}
use Rattle.aes_mixing.proofs.mix_column.Goals as goal

pub returns : goal.returns
unfolding mixed_word word entries
returns g c =
    λ i. c.mix.ensures i ∷ c.mix-2.ensures i ∷ c.mix-3.ensures i ∷ c.mix-4.ensures i ∷ []
