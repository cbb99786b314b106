-- `boundary_opening::location` meets its contract.
use Rattle.boundary_answers.specs.BoundaryAnswers.{numbered_left}
use Rattle.boundary_numbers.proofs.GivenLaws.{given}
use Rattle.boundary_opening.proofs.location.Goals as goal
use Rattle.answers.specs.Answers.{refusal_number}

pub returns : goal.returns
returns c =
    let both =
    given refusal_number numbered_left c.locate.ensures (c.give_number.ensures.value, c.give_number.ensures.place_after) in
    record { value = both.0; offset_after = both.1 }
