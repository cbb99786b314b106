-- `map_output::Text::put_area` meets its contract.
use Rattle.map_output.specs.MapOutput.{area_lines, kind_line}
use Rattle.map_output.proofs.PutLaws.{written_append}
use Rattle.map_output.proofs.Text.put_area.Goals as goal

pub returns : goal.returns
unfolding area_lines kind_line
returns c =
    let host = written_append c.put_either.ensures c.put_number.ensures in
    written_append (written_append host c.put_number-2.ensures) c.put_number-3.ensures
