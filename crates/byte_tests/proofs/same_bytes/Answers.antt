use mathlib.Core.Path.{sym, ◌∙◌}
use native.Mathlib.Omega.{arith}
use borrow.Author.Tests.{eq-eqb, ne_eqb}
use Rattle.byte_tests.proofs.BytesLaws.{same_bytes_length, same_bytes_drop, same_bytes_end}
use Rattle.byte_tests.proofs.same_bytes.Goals as goal

pub returns-then-a-b : goal.returns-then-a-b
returns-then-a-b c = sym (same_bytes_length _ _ c.if-a-b.true)

pub returns-then-a-same : goal.returns-then-a-same
returns-then-a-same c =
    let a = c.args in
    let step = same_bytes_drop a.a.now a.b.now c.loop-same.same (omega arith) (omega arith) in
    simp (ne_eqb _ _ c.if-a-same.true) at (sym step ∙ c.loop-same.invariant.1)

pub loop-same-preserved : goal.loop-same-preserved
loop-same-preserved c =
    let a = c.args in
    let step = same_bytes_drop a.a.now a.b.now c.loop-same.same (omega arith) (omega arith) in
    (omega arith, simp (eq-eqb _ _ c.if-a-same.false) at (sym step ∙ c.loop-same.invariant.1))

pub returns : goal.returns
returns c =
    let a = c.args in
    sym (same_bytes_end a.a.now a.b.now c.loop-same.same (omega arith) (omega arith)) ∙ c.loop-same.invariant.1
