-- `judgement::Call::judge_end` meets its contract: the extent against the volume's end.
use Rattle.std.proofs.Common.{rules}
use Rattle.sector_map.specs.SectorMap.{sectors}
use Rattle.judgement.specs.Judging.{end_answer, blocked_by}
use Rattle.judgement.proofs.Call.judge_end.Goals as goal

pub returns-in-None : goal.returns-in-None
unfolding end_answer blocked_by sectors
returns-in-None c = search rules

pub returns-in-Some : goal.returns-in-Some
unfolding end_answer blocked_by sectors
returns-in-Some c = search rules
