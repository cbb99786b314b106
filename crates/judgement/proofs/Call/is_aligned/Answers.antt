-- `judgement::Call::is_aligned` meets its contract: the first sector and the count by one mask.
use native.Mathlib.Omega.{arith}
use Rattle.layout.proofs.SectorSizeLaws.{sector_size_least, both_below_in_sectors}
use Rattle.judgement.specs.Judging.{alignment_rule}
use Rattle.judgement.proofs.Call.is_aligned.Goals as goal

pub overflow_sub-below : goal.overflow_sub-below
overflow_sub-below c = omega (arith, sector_size_least _ c.requires)

pub returns : goal.returns
unfolding alignment_rule
returns c = both_below_in_sectors _ c.requires c.args.self.extent.first c.args.self.extent.count
