-- Writing a header (RULES.md, Writing headers): the answer by lengths and numbers alone, and what is left.
-- What the contracts of `header_writing` cite, in the rules' order. Assumes nothing.
use Rattle.std.specs.Prelude.{ℕ, List, leb, Ok, Err, ⊤}
use Rattle.answers.specs.Answers.{line, Answer, refuse}
use Rattle.layout.specs.{Rules.{host_size_rule, sector_size_rule, data_area_rule}, declared.Layout.Layout}
use Rattle.locations.specs.Locations.{code_rule, location_of}
use Rattle.header_format.specs.Format.{truecrypt, magic_number, version_rule, new_lengths_rule}
use Rattle.new_header.specs.NewHeader.{new_header}

-- what the header is to tell, as the layout of a first candidate; the kind is that of the code's location
unfoldable pub asked_layout : List ℕ → ℕ → ℕ → ℕ → ℕ → ℕ → ℕ → ℕ → Layout
asked_layout magic version min_program_version code host_size data_start data_size sector_size =
    record {
      host_size = host_size;
      kind = (location_of code).kind;
      magic = magic_number magic;
      version = version;
      min_program_version = min_program_version;
      data_start = data_start;
      data_size = data_size;
      candidate = 0;
      sector_size = sector_size;
    }

-- the answer: 1 for the lengths, 19 for the magic, and then the reader's own rules, by the reader's numbers
unfoldable pub header_answer : ℕ → Layout → ℕ → ℕ → ℕ → Answer ⊤
header_answer code layout salt_size keys_size header_size =
    line (refuse 1) (new_lengths_rule salt_size keys_size header_size)
    (line (refuse 19) (leb layout.magic truecrypt)
    (line (refuse 2) (code_rule code)
    (line (refuse 3) (host_size_rule layout.host_size)
    (line (refuse 5) (version_rule layout.magic layout.version)
    (line (refuse 8) (sector_size_rule layout.sector_size)
    (line (refuse 10) (data_area_rule layout) (Ok tt)))))))

-- what the writer leaves: the header, and where it refuses the bytes as they were
unfoldable pub header_left : Answer ⊤ → Layout → List ℕ → List ℕ → List ℕ → List ℕ
header_left (Ok done) layout salt keys before = new_header layout salt keys
header_left (Err refusal) layout salt keys before = before
