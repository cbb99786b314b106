use mathlib.Core.{Path.{sym, ◌∙◌}, List.{append-nil}}
use native.Mathlib.Omega.{arith}
use lib.Seq.{drop-length}
use Rattle.numbers.proofs.WrittenLaws.{written_back, written_front}
use Rattle.number_writing.proofs.write_big_endian.Goals as goal

pub loop-at-init : goal.loop-at-init
loop-at-init c = rw (drop-length c.args.bytes.now, append-nil)

pub loop-at-preserved : goal.loop-at-preserved
loop-at-preserved c =
    let at = c.loop-at in
    at.invariant ∙ written_back at.bytes at.at at.high (omega arith) (omega arith)

pub returns : goal.returns
returns c =
    let at = c.loop-at in
    sym (at.invariant ∙ written_front at.bytes at.at at.high (omega arith))
