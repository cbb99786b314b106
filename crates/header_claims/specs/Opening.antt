-- Demand 2, first half (RULES.md, Opening): a volume opens exactly when some candidate is a header that keeps every line.
-- `opened` is the definition that the contract of `opening::open` cites; the rules are stated apart from it. Assumes nothing.
use Rattle.std.specs.Prelude.{ℕ, ◌-◌, ◌*◌, ◌%◌, ◌^◌, ◌≤◌, ◌<◌, length, get_or, Ok}
use mathlib.Core.{Path.◌≡◌, Logic.◌⊎◌, List.List}
use Rattle.layout.specs.declared.Layout.{Layout}
use Rattle.locations.specs.Locations.{located}
use Rattle.opening.specs.Opening.{opened}
use Rattle.header_claims.specs.Header.{bytes_at, IsHeader, Line, number, Keeps, FirstBroken, Tells}
use Rattle.answers.specs.Answers.{refuse}

-- n candidates of 512 bytes and n codes, n from 1 to 64
pub record Lengths (candidates codes : List ℕ) : Type 0 where
  pub some : 1 ≤ length codes
  pub most : length codes ≤ 64
  pub whole : length candidates ≡ length codes * 512

-- every code is at most 3
unfoldable pub Codes : List ℕ → Type 0
Codes codes = (i : ℕ) → i < length codes → get_or codes i 0 ≤ 3

-- the host: whole sectors, room for both header areas and one sector, and at most 2^50 bytes
pub record HostSize (host_size : ℕ) : Type 0 where
  pub multiple : host_size % 512 ≡ 0
  pub least : 262656 ≤ host_size
  pub most : host_size ≤ 2 ^ 50

-- the candidate at an index
unfoldable pub candidate : List ℕ → ℕ → List ℕ
candidate candidates i = bytes_at (i * 512) 512 candidates

-- the kind of volume at a location: standard at even codes, hidden at odd ones
unfoldable pub kind_of : ℕ → ℕ
kind_of code = code % 2

-- the candidate at an index is a header that keeps every line
pub record IsAccepted (candidates codes : List ℕ) (host_size i : ℕ) : Type 0 where
  pub inside : i < length codes
  pub is_header : IsHeader (candidate candidates i)
  pub keeps : (line : Line) → Keeps line (kind_of (get_or codes i 0)) host_size (candidate candidates i)

-- .. and none before it is
pub record FirstAccepted (candidates codes : List ℕ) (host_size i : ℕ) : Type 0 where
  pub accepted : IsAccepted candidates codes host_size i
  pub first : (j : ℕ) → j < i → IsAccepted candidates codes host_size j → ⊥

-- the candidate at an index is a header, and none before it is; line is the first that it breaks
pub record FirstHeader (candidates codes : List ℕ) (host_size i : ℕ) (line : Line) : Type 0 where
  pub inside : i < length codes
  pub is_header : IsHeader (candidate candidates i)
  pub first : (j : ℕ) → j < i → IsHeader (candidate candidates j) → ⊥
  pub breaks : FirstBroken line (kind_of (get_or codes i 0)) host_size (candidate candidates i)

-- what a layout tells of the candidate at an index
abbrev pub TellsAt : List ℕ → List ℕ → ℕ → ℕ → Layout → Type 0
TellsAt candidates codes host_size i layout = Tells (kind_of (get_or codes i 0)) host_size i (candidate candidates i) layout

-- lengths, codes and host size are allowed
pub record Allowed (candidates codes : List ℕ) (host_size : ℕ) : Type 0 where
  pub lengths : Lengths candidates codes
  pub codes_known : Codes codes
  pub size : HostSize host_size

-- the claim, for any lists of bytes and any number
pub record OpensExactlyWhen (candidates codes : List ℕ) (host_size : ℕ) : Type 0 where
  -- before any candidate: 1, then 2, then 3
  pub refuses1 : (Lengths candidates codes → ⊥) → opened candidates codes host_size ≡ refuse 1
  pub refuses2 : Lengths candidates codes → (Codes codes → ⊥) → opened candidates codes host_size ≡ refuse 2
  pub refuses3 : Lengths candidates codes → Codes codes → (HostSize host_size → ⊥) → opened candidates codes host_size ≡ refuse 3
  -- the first accepted candidate gives the layout
  pub accepts : Allowed candidates codes host_size → (i : ℕ) → FirstAccepted candidates codes host_size i
      → (layout : Layout) × (opened candidates codes host_size ≡ Ok layout) × TellsAt candidates codes host_size i layout
  -- and nothing else does
  pub only_accepts : (layout : Layout) → opened candidates codes host_size ≡ Ok layout
      → Allowed candidates codes host_size × ((i : ℕ) × FirstAccepted candidates codes host_size i × TellsAt candidates codes host_size i layout)
  -- where none is accepted: the refusal of the first header, by the first line that it breaks
  pub refuses_by_header : Allowed candidates codes host_size → ((i : ℕ) → IsAccepted candidates codes host_size i → ⊥)
      → (i : ℕ) (line : Line) → FirstHeader candidates codes host_size i line → opened candidates codes host_size ≡ refuse (number line)
  -- where none is a header: 4
  pub refuses4 : Allowed candidates codes host_size → ((i : ℕ) → i < length codes → IsHeader (candidate candidates i) → ⊥)
      → opened candidates codes host_size ≡ refuse 4
  -- one of the three last cases holds
  pub one_holds : Allowed candidates codes host_size
      → ((i : ℕ) × FirstAccepted candidates codes host_size i)
      ⊎ (((i : ℕ) → IsAccepted candidates codes host_size i → ⊥)
      × (((i : ℕ) × (line : Line) × FirstHeader candidates codes host_size i line)
      ⊎ ((i : ℕ) → i < length codes → IsHeader (candidate candidates i) → ⊥)))

-- the header locations: 0, 65,536, S-131,072 and S-65,536; a code above 3 is refused 2, and then a host size 3
pub record LocatesHeaders (host_size : ℕ) : Type 0 where
  pub main : HostSize host_size → located 0 host_size ≡ Ok 0
  pub hidden_main : HostSize host_size → located 1 host_size ≡ Ok 65536
  pub backup : HostSize host_size → located 2 host_size ≡ Ok (host_size - 131072)
  pub hidden_backup : HostSize host_size → located 3 host_size ≡ Ok (host_size - 65536)
  pub unknown_code : (code : ℕ) → 3 < code → located code host_size ≡ refuse 2
  pub unknown_size : (code : ℕ) → code ≤ 3 → (HostSize host_size → ⊥) → located code host_size ≡ refuse 3
