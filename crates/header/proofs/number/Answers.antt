-- `header::number` meets its contract: the field has at most eight bytes, so what is read is the number itself.
use native.Mathlib.Omega.{arith}
use lib.ListN.{length-take}
use Rattle.header.proofs.number.Goals as goal

pub returns : goal.returns
returns c =
    let bytes = c.field_bytes.ensures in
    rw bytes at (c.read_big_endian.ensures.whole (rw bytes (simp length-take (omega arith))))
