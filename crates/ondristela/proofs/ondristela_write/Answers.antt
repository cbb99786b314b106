-- `ondristela::ondristela_write` meets its contract, which is that of the function it hands on to.
use Rattle.ondristela.proofs.ondristela_write.Goals as goal

pub returns : goal.returns
returns c = c.write.ensures
