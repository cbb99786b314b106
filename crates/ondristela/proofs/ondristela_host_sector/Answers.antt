-- `ondristela::ondristela_host_sector` meets its contract, which is that of the function it hands on to.
use Rattle.ondristela.proofs.ondristela_host_sector.Goals as goal

pub returns : goal.returns
returns c = c.host_sector.ensures
