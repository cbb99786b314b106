-- `layout::is_of_sectors` meets its contract: Z first, then the size, and then the three multiples by one mask.
use Rattle.std.proofs.Common.{arith, le-leb}
use mathlib.Core.{Path.{sym, ap, ◌∙◌}, Bool.{Bool, ◌&&◌}}
use lib.Bits.{bit_or}
use borrow.Author.Tests.{lt-leb}
use Rattle.layout.specs.Rules.{multiple, sectors_rule}
use Rattle.layout.proofs.SectorSizeLaws.{sector_size_least, below_none, both_multiple}
use Rattle.layout.proofs.is_of_sectors.Goals as goal

pub returns-then-not-is_sector_size : goal.returns-then-not-is_sector_size
unfolding sectors_rule
returns-then-not-is_sector_size c = simp (sym c.is_sector_size.ensures ∙ c.if-not-is_sector_size.true)

pub returns-then-layout-lt-SECTOR_SIZE : goal.returns-then-layout-lt-SECTOR_SIZE
unfolding sectors_rule
returns-then-layout-lt-SECTOR_SIZE c = simp (sym c.is_sector_size.ensures ∙ c.if-not-is_sector_size.false, lt-leb _ _ c.if-layout-lt-SECTOR_SIZE.true)

pub overflow_sub-below : goal.overflow_sub-below
overflow_sub-below c = omega (arith, sector_size_least _ (sym c.is_sector_size.ensures ∙ c.if-not-is_sector_size.false))

pub returns : goal.returns
unfolding sectors_rule
returns c =
    let layout = c.args.layout in
    let start = layout.data_start in
    let size = layout.data_size in
    let right = sym c.is_sector_size.ensures ∙ c.if-not-is_sector_size.false in
    simp (right, le-leb _ _ c.if-layout-lt-SECTOR_SIZE.false)
    (below_none _ right (bit_or (bit_or size start) layout.host_size)
    ∙ both_multiple _ right (bit_or size start) layout.host_size
    ∙ ap (λ (whole : Bool). whole && multiple layout.host_size layout.sector_size) (both_multiple _ right size start))
