-- `judgement::Call::judge_lock` meets its contract: the lock, then what the extent shares with the protected range.
use Rattle.std.proofs.Common.{rules}
use Rattle.judgement.specs.Judging.{lock_answer, blocked_by}
use Rattle.judgement.proofs.Call.judge_lock.Goals as goal

pub returns-then-locked : goal.returns-then-locked
unfolding lock_answer
returns-then-locked c = search rules

pub returns-in-None : goal.returns-in-None
unfolding lock_answer blocked_by
returns-in-None c = search rules

pub returns-in-Some : goal.returns-in-Some
unfolding lock_answer blocked_by
returns-in-Some c = search rules
