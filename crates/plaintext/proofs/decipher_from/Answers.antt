-- `plaintext::decipher_from` meets its contract.
use mathlib.Core.Path.{◌∙◌}
use native.Mathlib.Omega.{arith}
use Rattle.plaintext.proofs.PlaintextLaws.{deciphered_out}
use Rattle.plaintext.proofs.decipher_from.Goals as goal

pub returns : goal.returns
returns c =
    c.convert_run.ensures
    ∙ deciphered_out c.args.key c.args.image.now c.args.buffer.now c.args.start c.requires.inside_image c.requires.whole_sectors (omega arith)
