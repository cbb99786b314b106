-- `aes_mixing::mix_columns` meets its contract.
use Rattle.aes_mixing.specs.Mixing.{mix_columns}
use Rattle.aes_mixing.proofs.mix_columns.Goals as goal

pub returns : goal.returns
unfolding mix_columns
returns c = c.each_column.ensures
