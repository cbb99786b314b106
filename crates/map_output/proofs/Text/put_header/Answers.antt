-- `map_output::Text::put_header` meets its contract.
use Rattle.map_output.specs.MapOutput.{header_lines, magic_line}
use Rattle.map_output.proofs.PutLaws.{written_append}
use Rattle.map_output.proofs.Text.put_header.Goals as goal

pub returns : goal.returns
unfolding header_lines magic_line
returns c = written_append (written_append c.put_either.ensures c.put_number.ensures) c.put_number-2.ensures
