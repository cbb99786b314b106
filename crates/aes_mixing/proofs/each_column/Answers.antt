-- `aes_mixing::each_column` meets its contract.
use Rattle.std.proofs.Common.{[], ◌∷◌}
use Rattle.bits.specs.Bits.{entries}
use Rattle.aes_mixing.specs.Mixing.{each_column}
use Rattle.aes_mixing.proofs.each_column.Goals as goal

pub returns : goal.returns
unfolding each_column entries
returns g c =
    λ i. c.mix_column.ensures i ∷ c.mix_column-2.ensures i ∷ c.mix_column-3.ensures i ∷ c.mix_column-4.ensures i ∷ []
