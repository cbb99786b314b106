-- `header_writing::write_layout` meets its contract: a refusal changes nothing, and past it the lengths are right.
use mathlib.Core.Path.{refl, sym, ◌∙◌}
use Rattle.new_header.proofs.LengthLaws.{over_fit}
use Rattle.answers.proofs.AnswerLaws.{passed_on}
use Rattle.header_writing.specs.HeaderWriting.{header_left}
use Rattle.header_writing.proofs.AnswerLaws.{done_passed}
use Rattle.header_writing.proofs.write_layout.Goals as goal

pub returns-in_err-judge : goal.returns-in_err-judge
unfolding header_left
returns-in_err-judge c =
    let refused = passed_on _ c.from_residual.ensures.1 in
    record { value = refused ∙ sym c.in_err-judge.was ∙ c.judge.ensures; header_after = rw refused refl }

pub returns : goal.returns
unfolding header_left
returns c =
    let done = sym c.in_ok-judge.was ∙ c.judge.ensures in
    record { value = done; header_after = c.lay.ensures ∙ over_fit _ _ _ _ (done_passed _ _ _ _ _ (sym done)).lengths }
