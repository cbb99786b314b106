-- `locations::locate` subtracts nothing from a host's size that is past the smallest one.
use mathlib.Core.{Path.{◌≡◌, sym, ◌∙◌}, Bool.true}
use native.Mathlib.Nat.{le_trans}
use lib.Dec.{lit≤}
use Rattle.layout.specs.Rules.{host_size_rule}
use Rattle.layout.proofs.RuleLaws.{host_size_least}
use Rattle.locations.specs.Locations.{location_of, locations}
use Rattle.locations.proofs.LocationLaws.{distance_le}
use Rattle.locations.proofs.locate.Goals as goal

pub overflow_sub-result : goal.overflow_sub-result
unfolding location_of locations
overflow_sub-result c =
    let kept : host_size_rule c.args.host_size ≡ true = sym c.is_host_size.ensures ∙ c.if-not-is_host_size.false in
    le_trans (distance_le c.args.code) (le_trans (lit≤ tt) (host_size_least c.args.host_size kept))
