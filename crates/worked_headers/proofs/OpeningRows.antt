-- The worked cases of opening hold: antt computes both sides. Assumes nothing.
use Prim.Native.Nat.{ℕ}
use mathlib.Core.{Path.refl, List.List}
use Rattle.bits.specs.Cases.{Right}
use Rattle.numbers.specs.Numbers.{big_endian, big_endian_from, big_endian_bytes}
use Rattle.byte_tests.specs.Tests.{same_bytes, all_zero}
use Rattle.crc32.specs.Crc32.{crc32, crc_from, bit_steps, bit_step}
use Rattle.layout.specs.Rules.{multiple, host_size_rule, sector_size_rule, place_rule, sectors_rule, data_area_rule}
use Rattle.header_format.specs.Format.{magic_number}
use Rattle.header.specs.Header.{magic_of, fields_of, checksums_match, is_header, accepted_layout, judge}
use Rattle.header_format.specs.Format.{version_rule}
use Rattle.header.specs.Header.{reserved_rule, flags_rule, hidden_size_rule, area_rule}
use Rattle.locations.specs.Locations.{locations, location_of, code_rule}
use Rattle.opening.specs.Opening.{lengths_rule, codes_rule, candidate_at, judgements, further, searched, opened}
use Rattle.worked_headers.specs.Openings.{outer_told, hidden_told, field_bytes, header_with, told_of, opens, opening_cases}

-- opening, with all that it goes by: where this is unfolded, opening is computed
unfoldable pub computed_opens : ℕ → ℕ → List ℕ → List ℕ
unfolding opens told_of outer_told hidden_told header_with field_bytes big_endian_bytes
    opened lengths_rule codes_rule code_rule host_size_rule searched further judgements candidate_at location_of locations
    judge is_header magic_number magic_of fields_of checksums_match same_bytes all_zero accepted_layout
    version_rule reserved_rule flags_rule sector_size_rule hidden_size_rule area_rule data_area_rule sectors_rule multiple place_rule
    crc32 crc_from bit_step bit_steps big_endian big_endian_from
computed_opens = opens

pub opening_rows : Right opening_cases
unfolding opening_cases computed_opens
opening_rows = refl
