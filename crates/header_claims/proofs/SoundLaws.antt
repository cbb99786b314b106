-- The test of a layout's soundness reflects what the guarantees say of it, and a sound layout starts behind the headers and is of whole
-- sectors.
-- Assumes nothing.
use Prim.Native.Nat.{ℕ, ◌%◌, ◌≤◌}
use native.Mathlib.Omega.{arith}
use mathlib.Core.{Path.{◌≡◌, refl}, Logic.⊎_elim}
use Rattle.layout.specs.{Rules.{data_area_rule, sound}, declared.Layout.Layout}
use Rattle.layout.proofs.SectorSizeLaws.{multiple_of_sector}
use Rattle.header.specs.Header.{area_rule}
use Rattle.header_claims.specs.{Header.{Multiple, SectorSize, KnownKind, DataArea}, SectorMap.Sound}
use Rattle.header_claims.proofs.Reflects.{Reflects, is_true, reflects_map, reflects_and, reflects_eqb}
use Rattle.header_claims.proofs.RuleReflections.{multiple_reflects, sector_size_reflects, host_size_reflects}
use Rattle.header_claims.proofs.LineLaws.{area_reflects}

-- the last header line, with E taken as V
pub data_area_rule_reflects : (layout : Layout)
    → Reflects (KnownKind layout.kind × SectorSize layout.sector_size × DataArea layout layout.data_size) (data_area_rule layout)
unfolding area_rule
data_area_rule_reflects layout =
    let size = layout.data_size in
    rw (is_true (reflects_eqb size size) refl) at (area_reflects layout size)

pub sound_reflects : (layout : Layout) → Reflects (Sound layout) (sound layout)
unfolding sound
sound_reflects layout =
    reflects_map (λ p. record { size = p.0; sectors = p.1.1; known = p.1.0; area = p.1.2 }) (λ s. (s.size, (s.known, s.sectors, s.area)))
    (reflects_and (host_size_reflects layout.host_size) (data_area_rule_reflects layout))

-- a multiple of an allowed sector size is one of 512
whole_sectors : (number size : ℕ) → SectorSize size → Multiple number size → number % 512 ≡ 0
whole_sectors number size known m = multiple_of_sector number size (is_true (sector_size_reflects size) known) (is_true (multiple_reflects number size) m)

-- so a sound layout's data area is of whole sectors of 512 bytes
pub sound_on_sectors : (layout : Layout) → Sound layout → (layout.data_start % 512 ≡ 0) × (layout.data_size % 512 ≡ 0)
sound_on_sectors layout s =
    let whole : (number : ℕ) → Multiple number layout.sector_size → number % 512 ≡ 0 = λ number. whole_sectors number layout.sector_size s.sectors in
    (whole layout.data_start s.area.start_multiple, whole layout.data_size s.area.size_multiple)

pub sound_start : (layout : Layout) → Sound layout → 131072 ≤ layout.data_start
sound_start layout s =
    ⊎_elim (λ standard. omega (arith, s.area.standard_start standard)) (λ hidden. s.area.hidden_start hidden) s.known
