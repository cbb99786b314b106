-- `judgement::write_extent` meets its contract: the write's own answer, and where it places the extent.
use mathlib.Core.Path.{sym, ap, ◌∙◌}
use Rattle.std.specs.Prelude.{Ok}
use Rattle.answers.proofs.AnswerLaws.{passed_on}
use Rattle.judgement.proofs.JudgingLaws.{write_passed, passed_starts}
use Rattle.judgement.proofs.PlacementLaws.{refused_placed, accepted_placed}
use Rattle.judgement.proofs.write_extent.Goals as goal

pub returns-in_err-judge_write : goal.returns-in_err-judge_write
returns-in_err-judge_write c =
    passed_on _ c.from_residual.ensures.1 ∙ refused_placed c.args.layout c.args.first (sym c.judge_write.ensures ∙ c.in_err-judge_write.was)

pub extent_start-requires : goal.extent_start-requires
extent_start-requires c =
    let starts = passed_starts _ _ _ _ _ _ (write_passed _ _ _ _ _ _ _ c.judge_write.ensures c.in_ok-judge_write.was) in
    record { layout_sound = starts.0; first_bound = starts.1 }

pub returns : goal.returns
returns c =
    ap (λ (start : _). Ok start) c.extent_start.ensures ∙ accepted_placed c.args.layout c.args.first (sym c.judge_write.ensures ∙ c.in_ok-judge_write.was)
