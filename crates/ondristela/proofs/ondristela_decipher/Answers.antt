-- `ondristela::ondristela_decipher` meets its contract, which is that of the function it hands on to.
use Rattle.ondristela.proofs.ondristela_decipher.Goals as goal

pub returns : goal.returns
returns c = c.decipher.ensures
