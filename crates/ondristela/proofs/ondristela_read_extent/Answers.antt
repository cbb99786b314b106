-- `ondristela::ondristela_read_extent` meets its contract, which is that of the function it hands on to.
use Rattle.ondristela.proofs.ondristela_read_extent.Goals as goal

pub returns : goal.returns
returns c = c.read_extent.ensures
