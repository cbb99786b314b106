-- `map_output::refusal_line` meets its contract.
use Rattle.map_output.specs.MapOutput.{refusal_line}
use Rattle.map_output.proofs.PutLaws.{written_first}
use Rattle.map_output.proofs.refusal_line.Goals as goal

pub returns : goal.returns
unfolding refusal_line
returns c = rw (← c.from.ensures) (written_first c.put_number.ensures)
