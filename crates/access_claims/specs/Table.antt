-- Reads and writes on a sound view (RULES.md, Reads and writes): calls, the table of refusals, and the host sectors that a call covers by the
-- sector map. A sector in the way is found by a walk over the call's own sectors, through that map. Assumes nothing.
use Rattle.std.specs.Prelude.{ℕ, zero, suc, ◌+◌, ◌*◌, ◌/◌, ◌%◌, Ok, Err, Some, None, Option, ⊤}
use mathlib.Core.{Bool.{Bool, false, not, ◌&&◌, cond}, List.{List, [], ◌∷◌}}
use lib.{Dec.{leb, eqb}, ListN.length}
use Rattle.layout.specs.declared.Layout.{Layout}
use Rattle.sector_map.specs.SectorMap.{host_sector}
use Rattle.answers.specs.Answers.{Answer, refuse, refuse_at}

-- what a call does
pub data Operation : Type 0 where
  reads writes : Operation

-- in which form a call's bytes are: raw, as the host has them, or plaintext, which is enciphered there
pub data Form : Type 0 where
  raw plaintext : Form

-- a call as listed: the form of its bytes, what it does, its extent, and its buffer's bytes as borrowed
pub record Call : Type 0 where
  pub form : Form
  pub operation : Operation
  pub first : ℕ
  pub count : ℕ
  pub buffer : List ℕ

-- the first of so many user sectors that a test finds, if it finds one: each is tried, in order
unfoldable pub first_of : (ℕ → Bool) → ℕ → ℕ → Option ℕ
first_of found first zero = None
first_of found first (suc count) = cond (found first) (Some first) (first_of found (suc first) count)

-- the sector that was found, or another one
unfoldable pub found_or : ℕ → Option ℕ → ℕ
found_or other None = other
found_or other (Some sector) = sector

-- the map refuses a sector 16
unfoldable pub is_past : Answer ℕ → Bool
is_past (Ok host) = false
is_past (Err refusal) = eqb refusal.number 16

-- the first sector of an extent that the map refuses 16; of an extent without sectors, where it starts
unfoldable pub first_past : Layout → ℕ → ℕ → ℕ
first_past layout first count = found_or first (first_of (λ user. is_past (host_sector layout user)) first count)

-- a first sector or a count is of whole sectors of the disk: a multiple of Z/512
unfoldable pub is_whole : Layout → ℕ → Bool
is_whole layout number = eqb (number % (layout.sector_size / 512)) 0

-- one check: its refusal where it fails, else what the later ones say
abbrev pub check : Answer ⊤ → Bool → Answer ⊤ → Answer ⊤
check refused passes later = cond passes later refused

-- the check for a sector in the way, of a call that nothing else refuses
unfoldable pub unless_at : ℕ → Option ℕ → Answer ⊤
unless_at number None = Ok tt
unless_at number (Some sector) = refuse_at number sector

-- the later checks of a call: a write's lock, and its first sector that is protected; a read has none
unfoldable pub later : Operation → Bool → Option ℕ → Answer ⊤
later reads locked touched = Ok tt
later writes locked touched = check (refuse 17) (not locked) (unless_at 18 touched)

-- the answer to a call on a view of a layout, by the image's length: the checks in order (a sound view is not refused 11), the same in
-- either form
unfoldable pub tabled : Layout → Bool → Option ℕ → ℕ → Call → Answer ⊤
tabled layout locked touched image_size call =
    check (refuse 13) (eqb image_size layout.host_size)
    (check (refuse 14) (leb call.count 128)
    (check (refuse 15) (eqb (length call.buffer) (call.count * 512))
    (check (refuse 20) (is_whole layout call.first && is_whole layout call.count)
    (check (refuse_at 16 (first_past layout call.first call.count)) (leb (call.first + call.count) (layout.data_size / 512))
    (later call.operation locked touched)))))

-- a host sector that the map gives, before others
unfoldable pub with_host : Answer ℕ → List ℕ → List ℕ
with_host (Ok host) hosts = host ∷ hosts
with_host (Err refusal) hosts = hosts

-- the host sectors that an extent covers: those that the map gives for its user sectors, in order
unfoldable pub covers : Layout → ℕ → ℕ → List ℕ
covers layout first zero = []
covers layout first (suc count) = with_host (host_sector layout first) (covers layout (suc first) count)
