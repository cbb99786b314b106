-- `opening::larger` meets its contract.
use native.Mathlib.Omega.{arith}
use Rattle.opening.proofs.CodeLaws.{larger_first, larger_second}
use Rattle.opening.proofs.larger.Goals as goal

pub returns-then-a-b : goal.returns-then-a-b
returns-then-a-b c = larger_second c.args.a c.args.b c.if-a-b.true

pub returns : goal.returns
returns c = larger_first c.args.a c.args.b (omega (arith, c.if-a-b.false))
