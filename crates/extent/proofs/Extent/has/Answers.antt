-- `extent::Extent::has` meets its contract: past the first sector, the difference is below the count where the sector is below the end.
use borrow.Author.Tests.{le-leb, lt-leb}
use Rattle.extent.specs.Extents.{has}
use Rattle.extent.proofs.OverlapLaws.{ltb_sub}
use Rattle.extent.proofs.Extent.has.Goals as goal

pub returns-then-self-sector : goal.returns-then-self-sector
unfolding has
returns-then-self-sector c =
    let a = c.args in
    simp (le-leb _ _ c.if-self-sector.true) (ltb_sub a.sector a.self.first a.self.count c.if-self-sector.true)

pub returns-else-self-sector : goal.returns-else-self-sector
unfolding has
returns-else-self-sector c = simp (lt-leb _ _ c.if-self-sector.false)
