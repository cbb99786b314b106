-- Sectors of 512 bytes (RULES.md, Sector sizes): each rule that a disk's sector size Z takes part in is, at Z 512, the rule as it was while Z
-- had to be 512. Those rules stand here a second time, over what Z takes no part in, and the claim is an equation for each. Assumes nothing.
use Rattle.std.specs.Prelude.{ℕ, suc, ◌*◌, ◌%◌, ◌<◌, Ok, ⊤}
use mathlib.Core.{Path.◌≡◌, Bool.{Bool, true, ◌&&◌, cond}, List.{List, [], ◌∷◌, foldl}}
use lib.{Dec.{leb, eqb}, ListN.length}
use Rattle.answers.specs.Answers.{line, Answer, refuse, refusal_number}
use Rattle.layout.specs.Rules.{standard, hidden, host_size_rule, sector_size_rule, place_rule, data_area_rule, sound}
use Rattle.layout.specs.declared.Layout.{Layout}
use Rattle.locations.specs.Locations.{code_rule, location_of}
use Rattle.header_format.specs.Format.{truecrypt}
use Rattle.header.specs.Header.{magic_of, fields_of, is_header, accepted_layout, judge}
use Rattle.header_format.specs.Format.{version_rule}
use Rattle.header.specs.Header.{reserved_rule, flags_rule, hidden_size_rule}
use Rattle.header_format.specs.declared.Fields.{Fields}
use Rattle.opening.specs.Opening.{lengths_rule, codes_rule, candidate_at, further, opened}
use Rattle.header_format.specs.Format.{new_lengths_rule}
use Rattle.new_header.specs.NewHeader.{new_fields}
use Rattle.header_writing.specs.HeaderWriting.{header_answer}
use Rattle.protection.specs.Protection.{area_end, protection_rule}
use Rattle.pairing.specs.Pairs.{paired}
use Rattle.judgement.specs.Judging.{end_answer, lock_answer, read_answer, write_answer}
use Rattle.header_claims.specs.{Header.fields_at, Opening.candidate}
use Rattle.protection.specs.Protection.{Protection}

-- the data area: whole sectors of 512 bytes, at least one, where its kind's may lie
unfoldable pub data_area_before : Layout → Bool
data_area_before layout =
    leb 512 layout.data_size && eqb (layout.data_size % 512) 0 && eqb (layout.data_start % 512) 0 && place_rule layout

-- a sound layout
unfoldable pub sound_before : Layout → Bool
sound_before layout = host_size_rule layout.host_size && data_area_before layout

-- a pair: a standard layout and a hidden one with the same S, whose data area does not reach out of the first's
unfoldable pub paired_before : Layout → Layout → Answer ⊤
paired_before outer hidden_layout =
    line (refuse 11) (sound_before outer && sound_before hidden_layout)
    (line (refuse 12)
    (eqb outer.kind standard && eqb hidden_layout.kind hidden && eqb outer.host_size hidden_layout.host_size
    && leb outer.data_start hidden_layout.data_start && leb (area_end hidden_layout) (area_end outer))
    (Ok tt))

-- the judgement of one candidate, with the lines 8 and 10 of then
unfoldable pub judge_before : ℕ → ℕ → ℕ → List ℕ → Answer Layout
judge_before kind host_size index h =
    let magic = magic_of h in
    let f = fields_of h in
    let layout = accepted_layout kind host_size index magic f in
    line (refuse 4) (is_header h)
    (line (refuse 5) (version_rule magic f.version)
    (line (refuse 6) (reserved_rule magic f.flags h)
    (line (refuse 7) (flags_rule f.flags)
    (line (refuse 8) (eqb f.sector_size 512)
    (line (refuse 9) (hidden_size_rule kind f.hidden_size f.data_size)
    (line (refuse 10) (eqb f.encrypted_size f.data_size && data_area_before layout) (Ok layout)))))))

-- opening, by these judgements in order
unfoldable pub judgements_before : List ℕ → ℕ → ℕ → List ℕ → List (Answer Layout)
judgements_before candidates host_size index [] = []
judgements_before candidates host_size index (code ∷ codes) =
    judge_before (location_of code).kind host_size index (candidate_at index candidates) ∷ judgements_before candidates host_size (suc index) codes

unfoldable pub opened_before : List ℕ → List ℕ → ℕ → Answer Layout
opened_before candidates codes host_size =
    line (refuse 1) (lengths_rule candidates codes)
    (line (refuse 2) (codes_rule codes)
    (line (refuse 3) (host_size_rule host_size) (foldl further (refuse 4) (judgements_before candidates host_size 0 codes))))

-- the writer's checks
unfoldable pub header_answer_before : ℕ → Layout → ℕ → ℕ → ℕ → Answer ⊤
header_answer_before code layout salt_size keys_size header_size =
    line (refuse 1) (new_lengths_rule salt_size keys_size header_size)
    (line (refuse 19) (leb layout.magic truecrypt)
    (line (refuse 2) (code_rule code)
    (line (refuse 3) (host_size_rule layout.host_size)
    (line (refuse 5) (version_rule layout.magic layout.version)
    (line (refuse 10) (data_area_before layout) (Ok tt))))))

-- the numbers of a new header
unfoldable pub new_fields_before : Layout → Fields
new_fields_before layout =
    record {
      version = layout.version;
      min_program_version = layout.min_program_version;
      hidden_size = cond (eqb layout.kind hidden) layout.data_size 0;
      data_size = layout.data_size;
      data_start = layout.data_start;
      encrypted_size = layout.data_size;
      flags = 0;
      sector_size = 512;
    }

-- the checks of a read or a write: 11, 13, 14, 15, 16, and then the later ones
unfoldable pub checked_before : Layout → Protection → ℕ → ℕ → ℕ → ℕ → Answer ⊤ → Answer ⊤
checked_before layout protection image_size first count buffer_size later =
    line (refuse 11) (sound_before layout && protection_rule layout protection)
    (line (refuse 13) (eqb image_size layout.host_size)
    (line (refuse 14) (leb count 128)
    (line (refuse 15) (eqb buffer_size (count * 512)) (end_answer layout first count later))))

-- the claim for a layout with Z 512
pub record LayoutAt512 (layout : Layout) : Type 0 where
  -- line 10 is tested where S keeps its rule, 3
  pub data_area : host_size_rule layout.host_size ≡ true → data_area_rule layout ≡ data_area_before layout
  pub soundness : sound layout ≡ sound_before layout
  pub pair : (hidden_layout : Layout) → hidden_layout.sector_size ≡ 512 → paired layout hidden_layout ≡ paired_before layout hidden_layout
  pub writer : (code salt_size keys_size header_size : ℕ)
      → header_answer code layout salt_size keys_size header_size ≡ header_answer_before code layout salt_size keys_size header_size
  pub written : new_fields layout ≡ new_fields_before layout
  pub reads : (protection : Protection) (image_size first count buffer_size : ℕ)
      → read_answer layout protection image_size first count buffer_size ≡ checked_before layout protection image_size first count buffer_size (Ok tt)
  pub writes : (protection : Protection) (locked : Bool) (image_size first count buffer_size : ℕ)
      → write_answer layout protection locked image_size first count buffer_size
      ≡ checked_before layout protection image_size first count buffer_size (lock_answer layout protection locked first count)
  -- nothing is refused 20
  pub reads_all : (protection : Protection) (image_size first count buffer_size : ℕ)
      → refusal_number (read_answer layout protection image_size first count buffer_size) ≡ 20 → ⊥
  pub writes_all : (protection : Protection) (locked : Bool) (image_size first count buffer_size : ℕ)
      → refusal_number (write_answer layout protection locked image_size first count buffer_size) ≡ 20 → ⊥

-- the claim
pub record SameAt512 : Type 0 where
  pub sector_size : (size : ℕ) → size ≡ 512 → sector_size_rule size ≡ eqb size 512
  pub layouts : (layout : Layout) → layout.sector_size ≡ 512 → LayoutAt512 layout
  pub header : (kind host_size index : ℕ) (h : List ℕ) → host_size_rule host_size ≡ true → (fields_at h).sector_size ≡ 512
      → judge kind host_size index h ≡ judge_before kind host_size index h
  pub opens : (candidates codes : List ℕ) (host_size : ℕ) → ((i : ℕ) → i < length codes → (fields_at (candidate candidates i)).sector_size ≡ 512)
      → opened candidates codes host_size ≡ opened_before candidates codes host_size
