-- `boundary_opening::open` meets its contract.
use Rattle.boundary_numbers.specs.BoundaryNumbers.{opened_left}
use Rattle.boundary_numbers.proofs.GivenLaws.{given}
use Rattle.boundary_opening.proofs.open.Goals as goal
use Rattle.answers.specs.Answers.{refusal_number}

pub returns : goal.returns
returns c =
    let both =
    given refusal_number opened_left c.open.ensures (c.give_layout.ensures.value, c.give_layout.ensures.numbers_after) in
    record { value = both.0; layout_after = both.1 }
