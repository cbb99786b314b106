-- What stands below opening: the rules for a host's size, a sector size, a data area and a layout, a magic and its versions, the judgement of
-- one candidate, and the key bytes. `multiple`, `host_size_rule`, `sector_size_rule`, `data_area_rule`, `sound`, `magic_number`, `version_rule`, `judge`
-- and `KeyBytes` are the definitions that the contracts of `layout`, `header` and `opening` cite. Assumes nothing.
use Rattle.std.specs.Prelude.{ℕ, ◌+◌, ◌*◌, ◌≤◌, length, Ok, Err}
use mathlib.Core.{Path.◌≡◌, Logic.{◌⊎◌, ◌↔◌}, Bool.true, List.{List, [], ◌++◌}}
use Rattle.layout.specs.Rules.{standard, hidden, multiple, host_size_rule, sector_size_rule, data_area_rule, sound}
use Rattle.layout.specs.declared.Layout.{Layout}
use Rattle.header_format.specs.Format.{magic_number, version_rule}
use Rattle.header.specs.Header.{judge}
use Rattle.key_bytes.specs.KeyBytes.{KeyBytes}
use Rattle.header_claims.specs.Header.{bytes_at, vera_letters, true_letters, Multiple, SectorSize, KnownKind}
use Rattle.header_claims.specs.Header.{DataArea, IsHeader, Line, number, Keeps, FirstBroken, Tells}
use Rattle.header_claims.specs.{Opening.HostSize, SectorMap.Sound}
use Rattle.answers.specs.Answers.{refuse}
use Rattle.answers.specs.declared.Refusal.{Refusal}

-- each rule is met exactly where it holds, and the kinds have these numbers
pub record KeepsRules : Type 0 where
  pub standard_kind : standard ≡ 0
  pub hidden_kind : hidden ≡ 1
  -- a magic's number, and the versions that its headers may have; any other number than VERA's is judged as TRUE's
  pub vera_magics : (bytes : List ℕ) → (magic_number bytes ≡ 0) ↔ (bytes ≡ vera_letters)
  pub true_magics : (bytes : List ℕ) → (magic_number bytes ≡ 1) ↔ (bytes ≡ true_letters)
  pub other_magics : (bytes : List ℕ) → ((bytes ≡ vera_letters) ⊎ (bytes ≡ true_letters) → ⊥) → magic_number bytes ≡ 2
  pub vera_versions : (version : ℕ) → (version_rule 0 version ≡ true) ↔ ((2 ≤ version) × (version ≤ 5))
  pub true_versions : (magic version : ℕ) → (magic ≡ 0 → ⊥) → (version_rule magic version ≡ true) ↔ ((version ≡ 4) ⊎ (version ≡ 5))
  pub multiples : (number of : ℕ) → (multiple number of ≡ true) ↔ Multiple number of
  pub host_sizes : (host_size : ℕ) → (host_size_rule host_size ≡ true) ↔ HostSize host_size
  pub sector_sizes : (size : ℕ) → (sector_size_rule size ≡ true) ↔ SectorSize size
  pub data_areas : (layout : Layout)
      → (data_area_rule layout ≡ true) ↔ (KnownKind layout.kind × SectorSize layout.sector_size × DataArea layout layout.data_size)
  pub layouts : (layout : Layout) → (sound layout ≡ true) ↔ Sound layout

-- the judgement of one candidate by itself, for any bytes, any kind, any host size and any index
pub record JudgesExactly (kind host_size index : ℕ) (h : List ℕ) : Type 0 where
  -- 4 for what is no header; only 512 bytes are
  pub other_length : (length h ≡ 512 → ⊥) → judge kind host_size index h ≡ refuse 4
  pub no_header : (IsHeader h → ⊥) → judge kind host_size index h ≡ refuse 4
  -- a header is refused by the first line that it breaks, and accepted where it keeps all
  pub breaks : length h ≡ 512 → IsHeader h → (line : Line) → FirstBroken line kind host_size h
      → judge kind host_size index h ≡ refuse (number line)
  pub accepts : length h ≡ 512 → IsHeader h → ((line : Line) → Keeps line kind host_size h)
      → (layout : Layout) × (judge kind host_size index h ≡ Ok layout) × Tells kind host_size index h layout
  -- the salt, bytes 0 to 63, is not looked at
  pub any_salt : (salt other rest : List ℕ) → length salt ≡ 64 → length other ≡ 64
      → judge kind host_size index (salt ++ rest) ≡ judge kind host_size index (other ++ rest)

-- the key bytes: bytes 256 to 511 of the accepted candidate, at their address in the candidates (block, and offset there); on a refusal
-- the empty part at the candidates' start
pub record GivesKeys (candidates : List ℕ) (borrowed : ℕ × ℕ) (keys : List ℕ) (returned : ℕ × ℕ) : Type 0 where
  pub content : (layout : Layout) → KeyBytes (Ok layout) candidates borrowed keys returned
      → keys ≡ bytes_at (layout.candidate * 512 + 256) 256 candidates
  pub address : (layout : Layout) → KeyBytes (Ok layout) candidates borrowed keys returned
      → returned ≡ (borrowed.0, layout.candidate * 512 + 256 + borrowed.1)
  pub no_content : (refusal : Refusal) → KeyBytes (Err refusal) candidates borrowed keys returned → keys ≡ []
  pub start_address : (refusal : Refusal) → KeyBytes (Err refusal) candidates borrowed keys returned → returned ≡ (borrowed.0, 0 + borrowed.1)
