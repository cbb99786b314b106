-- `map_output::Text::put_sectors` meets its contract.
use Rattle.sector_map.specs.SectorMap.{sectors, first_sector}
use Rattle.map_output.specs.MapOutput.{sector_lines}
use Rattle.map_output.proofs.PutLaws.{written_append}
use Rattle.map_output.proofs.Text.put_sectors.Goals as goal

pub returns : goal.returns
unfolding sector_lines sectors first_sector
returns c =
    rw (← c.last_sector.ensures) (written_append (written_append c.put_number.ensures c.put_number-2.ensures) c.put_number-3.ensures)
