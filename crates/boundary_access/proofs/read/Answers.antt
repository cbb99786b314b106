-- `boundary_access::read` meets its contract: the answer of the view that the numbers tell, as a number and a sector.
use Rattle.boundary_access.proofs.ToldViewLaws.{read_call}
use Rattle.boundary_access.proofs.read.Goals as goal

pub returns : goal.returns
returns c =
    read_call _ _ _ _ _ _ c.view_from-told.ensures _ _ _ _ c.give_answer.ensures _ c.read-outcome.ensures
