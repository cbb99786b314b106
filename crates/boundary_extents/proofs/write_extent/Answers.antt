-- `boundary_extents::write_extent` meets its contract: the placement of the view that the numbers tell, and its lock.
use Rattle.boundary_extents.proofs.ToldExtentLaws.{write_extent_call}
use Rattle.boundary_extents.proofs.write_extent.Goals as goal

pub returns : goal.returns
returns c =
    write_extent_call _ _ _ _ _ _ c.view_from-told.ensures _ _ _ _ _ _ (c.give_placement.ensures.value, (c.give_placement.ensures.offset_after, c.give_placement.ensures.sector_after)) c.write_extent-placed.ensures _ _
    c.lock_after.ensures.value c.lock_after.ensures.view_after
