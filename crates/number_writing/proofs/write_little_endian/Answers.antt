use mathlib.Core.Path.{sym, ◌∙◌}
use native.Mathlib.Omega.{arith}
use lib.ListN.{length}
use Rattle.numbers.proofs.WrittenLaws.{written_suc, written_end}
use Rattle.number_writing.proofs.write_little_endian.Goals as goal

pub loop-at-preserved : goal.loop-at-preserved
loop-at-preserved c =
    let at = c.loop-at in
    at.invariant ∙ written_suc at.bytes (length c.args.bytes.now) at.at at.rest (omega arith) (omega arith)

pub returns : goal.returns
returns c =
    let at = c.loop-at in
    sym (at.invariant ∙ written_end at.bytes (length c.args.bytes.now) at.at at.rest (omega arith) (omega arith))
