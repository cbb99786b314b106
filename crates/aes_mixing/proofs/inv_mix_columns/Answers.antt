-- `aes_mixing::inv_mix_columns` meets its contract.
use Rattle.aes_mixing.specs.Mixing.{inv_mix_columns}
use Rattle.aes_mixing.proofs.inv_mix_columns.Goals as goal

pub returns : goal.returns
unfolding inv_mix_columns
returns c = c.each_column.ensures
