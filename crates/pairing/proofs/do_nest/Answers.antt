-- `pairing::do_nest` meets its contract: past the earlier tests, what is left is told by the two ends.
use Rattle.std.proofs.Common.{rules}
use Rattle.protection.specs.Protection.{area_end}
use Rattle.pairing.specs.Pairs.{nests}
use Rattle.pairing.proofs.PairLaws.{leb_sub_add}
use Rattle.pairing.proofs.do_nest.Goals as goal

pub returns-then-outer-hidden-3 : goal.returns-then-outer-hidden-3
unfolding nests area_end
returns-then-outer-hidden-3 c = search (rules, leb_sub_add)
