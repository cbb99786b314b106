-- `aes_steps::last_round` meets its contract.
use mathlib.Core.Path.{ap, ◌∙◌}
use Rattle.aes_steps.specs.Blocks.{shift_rows, add_round_key}
use Rattle.aes_steps.proofs.last_round.Goals as goal

pub returns : goal.returns
returns c tables =
    let key = c.args.key in
    c.add_round_key.ensures
    ∙ ap (add_round_key key) (c.shift_rows-moved.ensures ∙ ap shift_rows (c.sub_bytes.ensures tables))
