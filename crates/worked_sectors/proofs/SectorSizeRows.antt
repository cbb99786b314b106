-- The worked cases of opening by the size of a disk's sectors hold: antt computes both sides. Assumes nothing.
use mathlib.Core.Path.{refl}
use Rattle.bits.specs.Cases.{Right}
use Rattle.worked_headers.proofs.OpeningRows.{computed_opens}
use Rattle.worked_sectors.specs.SectorSizes.{opens_m, sector_size_cases}

pub sector_size_rows : Right sector_size_cases
unfolding sector_size_cases opens_m computed_opens
sector_size_rows = refl
