-- `xts::conversion::Conversion::under_tweak` meets its contract.
use Rattle.std.proofs.Common.{ap, ◌∙◌}
use Rattle.aes_steps.specs.Blocks.{add_round_key}
use Rattle.aes.specs.Cipher.{through_cipher}
use Rattle.xts.specs.Units.{under_tweak}
use Rattle.xts.proofs.conversion.Conversion.under_tweak.Goals as goal

pub returns : goal.returns
unfolding under_tweak
returns c =
    let self = c.args.self.now in
    c.add_round_key.ensures
    ∙ ap (add_round_key c.args.tweak)
    (c.convert_block-converted.ensures self.looks_up ∙ ap (through_cipher self.direction self.for_data.now) c.add_round_key-masked.ensures)
