-- Opening (RULES.md, Opening): the tests before any candidate, and the search in order. What the contract of `opening::open` cites.
-- Assumes nothing.
use Rattle.std.specs.Prelude.{ℕ, suc, ◌*◌, Ok, Err}
use mathlib.Core.{Bool.{Bool, true, ◌&&◌, cond}, List.{List, [], ◌∷◌, foldl}}
use lib.{Dec.{leb, eqb}, ListN.length}
use Rattle.answers.specs.Answers.{line, Answer, refuse}
use Rattle.layout.specs.Rules.{host_size_rule}
use Rattle.fields.specs.Bytes.{part}
use Rattle.header_format.specs.Format.{header_bytes}
use Rattle.header.specs.Header.{judge}
use Rattle.locations.specs.Locations.{code_rule, location_of}
use Rattle.layout.specs.declared.Layout.{Layout}

-- the most candidates of one call
abbrev pub max_candidates : ℕ
max_candidates = 64

-- the lengths: n codes for n candidates of 512 bytes (the lab's "trials"), n from 1 to 64
unfoldable pub lengths_rule : List ℕ → List ℕ → Bool
lengths_rule candidates codes =
    leb 1 (length codes) && leb (length codes) max_candidates && eqb (length candidates) (length codes * header_bytes)

-- every code is one of the four
unfoldable pub codes_rule : List ℕ → Bool
codes_rule [] = true
codes_rule (code ∷ codes) = code_rule code && codes_rule codes

-- the candidate at an index
unfoldable pub candidate_at : ℕ → List ℕ → List ℕ
candidate_at index candidates = part (index * header_bytes) header_bytes candidates

-- the judgements of the candidates, in order, from an index on
unfoldable pub judgements : List ℕ → ℕ → ℕ → List ℕ → List (Answer Layout)
judgements candidates host_size index [] = []
judgements candidates host_size index (code ∷ codes) =
    judge (location_of code).kind host_size index (candidate_at index candidates) ∷ judgements candidates host_size (suc index) codes

-- the answer so far and the next judgement: an acceptance stays, 4 (no header) gives way to any answer, and another refusal, which is
-- that of the first header, to an acceptance only
unfoldable pub further : Answer Layout → Answer Layout → Answer Layout
further (Ok layout) next = Ok layout
further (Err first) (Ok layout) = Ok layout
further (Err first) (Err later) = Err (cond (eqb first.number 4) later first)

-- the answer over the candidates of so many codes: the first acceptance, else the refusal of the first header, else 4
unfoldable pub searched : List ℕ → ℕ → List ℕ → Answer Layout
searched candidates host_size codes = foldl further (refuse 4) (judgements candidates host_size 0 codes)

-- the answer of opening: 1, 2 and 3 before any candidate, then the search
unfoldable pub opened : List ℕ → List ℕ → ℕ → Answer Layout
opened candidates codes host_size =
    line (refuse 1) (lengths_rule candidates codes)
    (line (refuse 2) (codes_rule codes)
    (line (refuse 3) (host_size_rule host_size) (searched candidates host_size codes)))
