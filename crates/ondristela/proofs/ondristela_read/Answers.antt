-- `ondristela::ondristela_read` meets its contract, which is that of the function it hands on to.
use Rattle.ondristela.proofs.ondristela_read.Goals as goal

pub returns : goal.returns
returns c = c.read.ensures
