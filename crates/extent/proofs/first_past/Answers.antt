-- `extent::first_past` meets its contract.
use Rattle.std.proofs.Common.{rules}
use Rattle.extent.specs.Extents.{beyond}
use Rattle.extent.proofs.OverlapLaws.{max_larger}
use Rattle.extent.proofs.first_past.Goals as goal

pub returns : goal.returns
unfolding beyond
returns c = search (rules, max_larger)
