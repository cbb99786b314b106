-- What holds of each entry of the location table.
-- Assumes nothing.
use Prim.Native.Nat.{ℕ, zero, suc, ◌≤◌}
use lib.Dec.{lit≤}
use Rattle.locations.specs.Locations.{locations, location_of}

pub distance_le : (code : ℕ) → (location_of code).distance ≤ 131072
unfolding location_of locations
distance_le zero = lit≤ tt
distance_le (suc zero) = lit≤ tt
distance_le (suc (suc zero)) = lit≤ tt
distance_le (suc (suc (suc zero))) = lit≤ tt
distance_le (suc (suc (suc (suc code)))) = lit≤ tt
