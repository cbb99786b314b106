-- `boundary_map::tweak` meets its contract.
use Rattle.layout.specs.declared.Layout.{Layout}
use Rattle.tweaks.specs.{Tweaks.tweak_of, declared.Tweak.Tweak}
use Rattle.boundary_numbers.proofs.GivenLaws.{given_for}
use Rattle.boundary_numbers.specs.BoundaryNumbers.{block_left}
use Rattle.boundary_map.proofs.tweak.Goals as goal
use Rattle.answers.specs.Answers.{refusal_number}

pub returns : goal.returns
returns c =
    let both =
    given_for (λ (t : Tweak). refusal_number t.number) (λ (t : Tweak). block_left t.number t.block)
    (λ (l : Layout). tweak_of l c.args.user) c.tweak_block.ensures c.layout_from-told.ensures (c.give_block.ensures.value, c.give_block.ensures.block_after) in
    record { value = both.0; block_after = both.1 }
