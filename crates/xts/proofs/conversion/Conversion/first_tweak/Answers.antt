-- `xts::conversion::Conversion::first_tweak` meets its contract.
use Rattle.std.proofs.Common.{ap, ◌∙◌}
use Rattle.numbers.specs.Numbers.{little_endian_bytes}
use Rattle.xts.proofs.NumberLaws.{little_endian_of}
use Rattle.aes_words.specs.Words.{in_fours}
use Rattle.aes.specs.Cipher.{cipher, through_cipher}
use Rattle.xts.specs.Units.{tweak_bytes, first_tweak}
use Rattle.xts.proofs.conversion.Conversion.first_tweak.Goals as goal

pub returns : goal.returns
unfolding tweak_bytes first_tweak through_cipher
returns c =
    let self = c.args.self.now in
    c.convert_block.ensures self.looks_up
    ∙ ap (cipher self.for_tweaks.now) (c.block_at.ensures ∙ ap (in_fours 4) (c.to_le_bytes-bytes.ensures ∙ little_endian_of 16 c.from.result ∙ ap (little_endian_bytes 16) c.from.ensures))
