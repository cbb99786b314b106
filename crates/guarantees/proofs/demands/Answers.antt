-- `guarantees::demands` meets its contract: every claim has its proof.
use Rattle.access_claims.proofs.Access.{accesses_by_table}
use Rattle.guarantees.proofs.Boundary.{tells_numbers, returns_zero, orders_numbers, stores_answers}
use Rattle.guarantees.proofs.BoundaryRuns.{carries_runs, begins_runs}
use Rattle.access_claims.proofs.Enciphering.{keeps_field, enciphers_exactly, spells_tweaks, tweaks_sectors}
use Rattle.access_claims.proofs.Extents.{shares_least, ends_by}
use Rattle.guarantees.proofs.FromHeaders.{from_headers_lem}
use Rattle.access_claims.proofs.InTheWay.{names_sectors}
use Rattle.guarantees.proofs.Interleaving.{demand_3}
use Rattle.header_claims.proofs.Judging.{keeps_rules, judges_exactly, gives_keys}
use Rattle.header_claims.proofs.LaysHeaders.{lays_headers}
use Rattle.header_claims.proofs.MapProgram.{reads_input, prints_lines}
use Rattle.header_claims.proofs.Numbers.{spells_numbers, checks_bytes}
use Rattle.header_claims.proofs.Opening.{opens_exactly_when, locates_headers}
use Rattle.access_claims.proofs.Parts.{keeps_parts}
use Rattle.access_claims.proofs.Placing.{places_extents, places_numbers}
use Rattle.access_claims.proofs.Plaintext.{gives_back, plaintext_by_table, tells_as_raw}
use Rattle.header_claims.proofs.ReadsBack.{reads_back}
use Rattle.guarantees.proofs.SameAt512.{same_at_512}
use Rattle.header_claims.proofs.SectorMap.{maps_exactly, opened_sound_lem}
use Rattle.access_claims.proofs.Views.{makes_views}
use Rattle.header_claims.proofs.WritesAgain.{writes_again}
use Rattle.header_claims.proofs.WritesExactly.{writes_exactly}
use Rattle.guarantees.proofs.demands.Goals as goal

pub returns : goal.returns
returns c =
    record {
      numbers = spells_numbers;
      checksum = checks_bytes;
      rules = keeps_rules;
      extents = shares_least;
      ends = ends_by;
      judges = judges_exactly;
      locates = locates_headers;
      opens = opens_exactly_when;
      keys = gives_keys;
      opened_sound = opened_sound_lem;
      written = writes_exactly;
      laid = lays_headers;
      read_back = reads_back;
      written_again = writes_again;
      maps = maps_exactly;
      views = makes_views;
      parts = keeps_parts;
      accesses = accesses_by_table;
      named = names_sectors;
      placed = places_extents;
      plaintexts = plaintext_by_table;
      given_back = gives_back;
      field = keeps_field;
      enciphers = enciphers_exactly;
      tweaks = spells_tweaks;
      tweaked = tweaks_sectors;
      demand3 = demand_3;
      from_headers = from_headers_lem;
      told = tells_numbers;
      zero = returns_zero;
      ordered = orders_numbers;
      stored = stores_answers;
      begun = begins_runs;
      carried = carries_runs;
      placed_numbers = places_numbers;
      told_as_raw = tells_as_raw;
      input = reads_input;
      output = prints_lines;
      at512 = same_at_512;
    }
