-- `ondristela::ondristela_open` meets its contract, which is that of the function it hands on to.
use Rattle.ondristela.proofs.ondristela_open.Goals as goal

pub returns : goal.returns
returns c = c.open.ensures
