-- `judgement::read_extent` meets its contract: the read's own answer, and where it places the extent.
use mathlib.Core.Path.{sym, ap, ◌∙◌}
use Rattle.std.specs.Prelude.{Ok}
use Rattle.answers.proofs.AnswerLaws.{passed_on}
use Rattle.judgement.proofs.JudgingLaws.{read_passed, passed_starts}
use Rattle.judgement.proofs.PlacementLaws.{refused_placed, accepted_placed}
use Rattle.judgement.proofs.read_extent.Goals as goal

pub returns-in_err-judge_read : goal.returns-in_err-judge_read
returns-in_err-judge_read c =
    passed_on _ c.from_residual.ensures.1 ∙ refused_placed c.args.layout c.args.first (sym c.judge_read.ensures ∙ c.in_err-judge_read.was)

pub extent_start-requires : goal.extent_start-requires
extent_start-requires c =
    let starts = passed_starts _ _ _ _ _ _ (read_passed _ _ _ _ _ _ c.judge_read.ensures c.in_ok-judge_read.was) in
    record { layout_sound = starts.0; first_bound = starts.1 }

pub returns : goal.returns
returns c =
    ap (λ (start : _). Ok start) c.extent_start.ensures ∙ accepted_placed c.args.layout c.args.first (sym c.judge_read.ensures ∙ c.in_ok-judge_read.was)
