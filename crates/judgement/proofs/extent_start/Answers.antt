-- `judgement::extent_start` meets its contract: the extent starts by the end of a sound layout.
use borrow.Author.Rules.{rules}
use native.Mathlib.Omega.{arith}
use Rattle.layout.proofs.RuleLaws.{sound_end_le}
use Rattle.sector_map.specs.SectorMap.{sectors}
use Rattle.judgement.specs.Offsets.{extent_start}
use Rattle.judgement.proofs.extent_start.Goals as goal

pub overflow_mul-result : goal.overflow_mul-result
unfolding sectors
overflow_mul-result c = record { fits = omega (arith, c.requires.first_bound, sound_end_le c.args.layout c.requires.layout_sound) }

pub overflow_add-result : goal.overflow_add-result
unfolding sectors
overflow_add-result c =
    record { fits = omega (arith, c.requires.first_bound, sound_end_le c.args.layout c.requires.layout_sound) }

pub returns : goal.returns
unfolding extent_start
returns c = search rules
