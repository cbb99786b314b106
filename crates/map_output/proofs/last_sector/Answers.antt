-- `map_output::last_sector` meets its contract.
use mathlib.Core.Path.{ap}
use Prim.Native.Nat.{ℕ, ◌+◌, ◌/◌}
use Rattle.sector_map.specs.SectorMap.{sectors, first_sector}
use Rattle.map_output.specs.MapOutput.{last_sector}
use Rattle.map_output.proofs.last_sector.Goals as goal

pub returns : goal.returns
unfolding last_sector sectors first_sector
returns c = ap (λ (n : ℕ). c.args.layout.data_start / 512 + n) c.saturating_sub.ensures
