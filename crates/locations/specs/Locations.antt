-- Where a header is read (RULES.md, Header locations): what the contract of `locate` cites. Assumes nothing.
use Rattle.std.specs.Prelude.{ℕ, ◌-◌, Ok}
use mathlib.Core.{Bool.Bool, List.{List, [], ◌∷◌}}
use lib.{Dec.leb, ListN.get_or}
use Rattle.layout.specs.Rules.{standard, hidden, host_size_rule}
use Rattle.locations.specs.declared.{Origin.{Origin, TheVariants.{HostStart, HostEnd}}, Location.Location}
use Rattle.answers.specs.Answers.{line, Answer, refuse}

-- the four header locations, by location code: distance, the end of the host it counts from, and the kind of volume
unfoldable pub locations : List Location
locations =
    record { distance = 0; origin = HostStart; kind = standard }
    ∷ record { distance = 65536; origin = HostStart; kind = hidden }
    ∷ record { distance = 131072; origin = HostEnd; kind = standard }
    ∷ record { distance = 65536; origin = HostEnd; kind = hidden }
    ∷ []

-- the location of a code
unfoldable pub location_of : ℕ → Location
location_of code = get_or locations code (record { distance = 0; origin = HostStart; kind = standard })

-- the rule for a code: not above 3
unfoldable pub code_rule : ℕ → Bool
code_rule code = leb code 3

-- a distance, counted from an end of the host
unfoldable pub offset_from : Origin → ℕ → ℕ → ℕ
offset_from HostStart host_size distance = distance
offset_from HostEnd host_size distance = host_size - distance

-- where the header of a code lies in a host, or the refusal: 2 for the code, then 3 for the host's size
unfoldable pub located : ℕ → ℕ → Answer ℕ
located code host_size =
    line (refuse 2) (code_rule code)
    (line (refuse 3) (host_size_rule host_size) (Ok (offset_from (location_of code).origin host_size (location_of code).distance)))
