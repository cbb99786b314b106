-- `boundary_views::protected` meets its contract.
use Rattle.layout.specs.declared.Layout.{Layout}
use Rattle.making.specs.Views.{protected_view}
use Rattle.boundary_numbers.specs.BoundaryNumbers.{viewed_left}
use Rattle.boundary_numbers.proofs.GivenLaws.{given_for}
use Rattle.boundary_views.proofs.protected.Goals as goal
use Rattle.answers.specs.Answers.{refusal_number}

pub returns : goal.returns
returns c =
    let both =
    given_for refusal_number viewed_left (λ (l : Layout × Layout). protected_view l.0 l.1) c.protected.ensures
    (λ i. (c.layout_from-around.ensures i, c.layout_from-within.ensures i)) (c.give_view.ensures.value, c.give_view.ensures.numbers_after) in
    record { value = both.0; view_after = both.1 }
