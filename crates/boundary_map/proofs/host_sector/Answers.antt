-- `boundary_map::host_sector` meets its contract.
use Rattle.layout.specs.declared.Layout.{Layout}
use Rattle.sector_map.specs.SectorMap.{host_sector}
use Rattle.boundary_answers.specs.BoundaryAnswers.{numbered_left}
use Rattle.boundary_numbers.proofs.GivenLaws.{given_for}
use Rattle.boundary_map.proofs.host_sector.Goals as goal
use Rattle.answers.specs.Answers.{refusal_number}

pub returns : goal.returns
returns c =
    let both =
    given_for refusal_number numbered_left (λ (l : Layout). host_sector l c.args.user) c.host_sector.ensures c.layout_from-told.ensures
    (c.give_number.ensures.value, c.give_number.ensures.place_after) in
    record { value = both.0; host_after = both.1 }
