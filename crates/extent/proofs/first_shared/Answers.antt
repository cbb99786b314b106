-- `extent::first_shared` meets its contract: both extents are asked for the larger of their first sectors.
use Rattle.std.proofs.Common.{rules}
use Rattle.extent.specs.Extents.{overlap}
use Rattle.extent.proofs.OverlapLaws.{max_larger}
use Rattle.extent.proofs.first_shared.Goals as goal

pub returns : goal.returns
unfolding overlap
returns c = search (rules, max_larger)
