-- `aes_steps::round` meets its contract.
use mathlib.Core.Path.{ap, ◌∙◌}
use Rattle.aes_steps.specs.Blocks.{shift_rows, add_round_key}
use Rattle.aes_mixing.specs.Mixing.{mix_columns}
use Rattle.aes_steps.specs.Rounds.{round}
use Rattle.aes_steps.proofs.round.Goals as goal

pub returns : goal.returns
unfolding round
returns c tables =
    let key = c.args.key in
    c.add_round_key.ensures
    ∙ ap (add_round_key key)
    (c.mix_columns.ensures
    ∙ ap mix_columns (c.shift_rows-moved.ensures ∙ ap shift_rows (c.sub_bytes.ensures tables)))
