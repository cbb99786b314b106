-- `ondristela::ondristela_encipher` meets its contract, which is that of the function it hands on to.
use Rattle.ondristela.proofs.ondristela_encipher.Goals as goal

pub returns : goal.returns
returns c = c.encipher.ensures
