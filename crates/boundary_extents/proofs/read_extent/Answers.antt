-- `boundary_extents::read_extent` meets its contract: the placement of the view that the numbers tell.
use Rattle.boundary_extents.proofs.ToldExtentLaws.{read_extent_call}
use Rattle.boundary_extents.proofs.read_extent.Goals as goal

pub returns : goal.returns
returns c =
    read_extent_call _ _ _ _ _ _ c.view_from-told.ensures _ _ _ _ _ _ (c.give_placement.ensures.value, (c.give_placement.ensures.offset_after, c.give_placement.ensures.sector_after)) c.read_extent-placed.ensures
