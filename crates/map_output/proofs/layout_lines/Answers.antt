-- `map_output::layout_lines` meets its contract.
use Rattle.map_output.specs.MapOutput.{layout_lines}
use Rattle.map_output.proofs.PutLaws.{written_append, written_first}
use Rattle.map_output.proofs.layout_lines.Goals as goal

pub returns : goal.returns
unfolding layout_lines
returns c = written_first (written_append (written_append c.put_header.ensures c.put_area.ensures) c.put_sectors.ensures)
