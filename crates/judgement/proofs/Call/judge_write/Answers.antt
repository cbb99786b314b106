-- `judgement::Call::judge_write` meets its contract: the checks of every call, then those of a write.
use mathlib.Core.Path.{refl, sym, ◌∙◌}
use Rattle.answers.specs.Answers.{is_accepted}
use Rattle.answers.proofs.AnswerLaws.{passed_on}
use Rattle.judgement.specs.Judging.{write_answer}
use Rattle.judgement.proofs.JudgingLaws.{read_passed, checked_passed, checked_refused}
use Rattle.judgement.proofs.Call.judge_write.Goals as goal

pub returns-in_err-judge_read : goal.returns-in_err-judge_read
unfolding write_answer is_accepted
returns-in_err-judge_read c =
    passed_on _ c.from_residual.ensures.1 ∙ sym c.in_err-judge_read.was ∙ checked_refused _ _ _ _ _ _ _ c.judge_read.ensures c.in_err-judge_read.was refl

pub returns : goal.returns
unfolding write_answer
returns c =
    let passed = read_passed _ _ _ _ _ _ c.judge_read.ensures c.in_ok-judge_read.was in
    c.judge_lock.ensures ∙ checked_passed _ _ _ _ _ _ passed _
