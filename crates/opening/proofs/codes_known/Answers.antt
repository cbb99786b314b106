use Prim.Native.Nat.{◌<◌}
use mathlib.Core.{Path.{sym, ◌∙◌}}
use native.Mathlib.Omega.{arith}
use lib.ListN.{length}
use borrow.Author.Rules.{rules}
use Rattle.locations.specs.Locations.{code_rule}
use Rattle.opening.proofs.CodeLaws.{codes_step, codes_end}
use Rattle.opening.proofs.codes_known.Goals as goal

pub loop-i-init : goal.loop-i-init
unfolding code_rule
loop-i-init c = search rules

pub loop-i-preserved : goal.loop-i-preserved
loop-i-preserved c =
    let codes = c.args.codes.now in
    let inside : c.loop-i.i < length codes = omega arith in
    (omega arith, codes_step codes c.loop-i.i c.loop-i.largest c.larger-largest.result inside c.larger-largest.ensures ∙ c.loop-i.invariant.1)

pub returns : goal.returns
unfolding code_rule
returns c =
    sym (codes_end c.args.codes.now c.loop-i.i c.loop-i.largest (omega arith)) ∙ c.loop-i.invariant.1
