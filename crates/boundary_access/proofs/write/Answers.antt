-- `boundary_access::write` meets its contract: the answer of the view that the numbers tell, as a number and a sector, and its lock.
use Rattle.boundary_access.proofs.ToldViewLaws.{write_call}
use Rattle.boundary_access.proofs.write.Goals as goal

pub returns : goal.returns
returns c =
    write_call _ _ _ _ _ _ c.view_from-told.ensures _ _ _ _ c.give_answer.ensures _ _ _ c.lock_after.ensures.value
    c.write-outcome.ensures c.lock_after.ensures.view_after
