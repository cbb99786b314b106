-- `map_output::Text::put_either` meets its contract.
use Rattle.map_output.specs.MapOutput.{either_line}
use Rattle.map_output.proofs.Text.put_either.Goals as goal

pub returns-then-test : goal.returns-then-test
unfolding either_line
returns-then-test c = rw c.if-test.true c.put_line.ensures

pub returns-else-test : goal.returns-else-test
unfolding either_line
returns-else-test c = rw c.if-test.false c.put_line-else-test.ensures
