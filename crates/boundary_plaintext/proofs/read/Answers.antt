-- `boundary_plaintext::read` meets its contract: the answer of the view that the numbers tell, with the key, as a number and a sector.
use Rattle.boundary_plaintext.proofs.ToldKeyedLaws.{plain_read_call}
use Rattle.boundary_plaintext.proofs.read.Goals as goal

pub returns : goal.returns
returns c =
    plain_read_call _ _ _ _ _ _ _ c.view_from-told.ensures _ _ _ _ c.give_answer.ensures _ c.read-outcome.ensures
