-- `aes_mixing::times_x` meets its contract.
use Rattle.aes_mixing.proofs.FieldLaws.{doubled}
use Rattle.aes_mixing.proofs.times_x.Goals as goal

pub returns : goal.returns
returns c = doubled c.args.a c.ranges.a.fits
