-- `boundary_views::plain` meets its contract.
use Rattle.making.specs.Views.{plain_view}
use Rattle.boundary_numbers.specs.BoundaryNumbers.{viewed_left}
use Rattle.boundary_numbers.proofs.GivenLaws.{given_for}
use Rattle.boundary_views.proofs.plain.Goals as goal
use Rattle.answers.specs.Answers.{refusal_number}

pub returns : goal.returns
returns c =
    let both =
    given_for refusal_number viewed_left plain_view c.plain.ensures c.layout_from-told.ensures (c.give_view.ensures.value, c.give_view.ensures.numbers_after) in
    record { value = both.0; view_after = both.1 }
