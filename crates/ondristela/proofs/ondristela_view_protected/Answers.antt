-- `ondristela::ondristela_view_protected` meets its contract, which is that of the function it hands on to.
use Rattle.ondristela.proofs.ondristela_view_protected.Goals as goal

pub returns : goal.returns
returns c = c.protected.ensures
