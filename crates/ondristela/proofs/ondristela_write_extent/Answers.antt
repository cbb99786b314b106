-- `ondristela::ondristela_write_extent` meets its contract, which is that of the function it hands on to.
use Rattle.ondristela.proofs.ondristela_write_extent.Goals as goal

pub returns : goal.returns
returns c = c.write_extent.ensures
