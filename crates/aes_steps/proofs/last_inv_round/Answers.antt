-- `aes_steps::last_inv_round` meets its contract.
use mathlib.Core.Path.{ap, ◌∙◌}
use Rattle.aes_steps.specs.Blocks.{inv_sub_bytes, add_round_key}
use Rattle.aes_steps.proofs.last_inv_round.Goals as goal

pub returns : goal.returns
returns c tables =
    let key = c.args.key in
    c.add_round_key.ensures
    ∙ ap (add_round_key key) (c.inv_sub_bytes-moved.ensures tables ∙ ap inv_sub_bytes c.inv_shift_rows.ensures)
