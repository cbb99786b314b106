-- `boundary_keys::keys` meets its contract.
use Rattle.boundary_numbers.proofs.GivenLaws.{given}
use Rattle.boundary_keys.specs.BoundaryKeys.{keys_left}
use Rattle.key_bytes.proofs.KeyLaws.{keys_offset_most}
use Rattle.boundary_keys.proofs.keys.Goals as goal
use Rattle.answers.specs.Answers.{refusal_number}

pub give_keys-requires : goal.give_keys-requires
give_keys-requires c = rw c.open.ensures (keys_offset_most _ _ _)

pub returns : goal.returns
returns c =
    let both =
    given refusal_number keys_left c.open.ensures (c.give_keys.ensures.value, c.give_keys.ensures.range_after) in
    record { value = both.0; range_after = both.1 }
