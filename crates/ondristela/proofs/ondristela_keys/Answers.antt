-- `ondristela::ondristela_keys` meets its contract, which is that of the function it hands on to.
use Rattle.ondristela.proofs.ondristela_keys.Goals as goal

pub returns : goal.returns
returns c = c.keys.ensures
