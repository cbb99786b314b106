-- `aes_steps::inv_round` meets its contract.
use mathlib.Core.Path.{ap, ◌∙◌}
use Rattle.aes_mixing.specs.Mixing.{inv_mix_columns}
use Rattle.aes_steps.specs.Rounds.{inv_round}
use Rattle.aes_steps.proofs.inv_round.Goals as goal

pub returns : goal.returns
unfolding inv_round
returns c tables = c.inv_mix_columns.ensures ∙ ap inv_mix_columns (c.last_inv_round.ensures tables)
