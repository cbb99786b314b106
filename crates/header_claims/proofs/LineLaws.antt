-- The test of each of the six lines reflects that a header keeps it, for a known magic and either kind of volume.
-- Assumes nothing.
use Prim.Native.Nat.{ℕ, ◌+◌, ◌/◌, ◌%◌, ◌≤◌}
use native.Mathlib.Omega.{arith}
use mathlib.Core.{Path.◌≡◌, Logic.{◌⊎◌, inl, inr, ⊎_elim}, Bool.{Bool, true, ◌&&◌, cond, and_assoc}, List.List}
use lib.Dec.{eqb}
use Rattle.layout.specs.{Rules.{standard, hidden, sector_size_rule, place_rule, sectors_rule, data_area_rule}, declared.Layout.Layout}
use Rattle.fields.specs.Bytes.{part}
use Rattle.byte_tests.specs.Tests.{all_zero}
use Rattle.header.specs.Header.{fields_of, accepted_layout}
use Rattle.header_format.specs.Format.{version_rule}
use Rattle.header.specs.Header.{reserved_rule, flags_rule, hidden_size_rule, area_rule}
use Rattle.header_claims.specs.Header.{bytes_at, vera_letters, true_letters, IsVera, IsTrue, Supported, SectorSize, KnownKind}
use Rattle.header_claims.specs.Header.{version, reserved, flags, sector_size, hidden_size, data_area, DataArea, Keeps}
use Rattle.header_claims.specs.Numbers.{AllZero}
use Rattle.header_claims.proofs.Reflects.{Reflects, holds, fails, reflects_map, reflects_and, reflects_not, reflects_eqb, reflects_leb}
use Rattle.header_claims.proofs.HeaderLaws.{MagicIs, spells_vera, spells_true, spells_neither, all_zero_reflects}
use Rattle.header_claims.proofs.RuleReflections.{multiple_reflects, sector_size_reflects}
use Rattle.header_claims.proofs.ToldLaws.{Told, layout_tells, tells_area}

-- a test by the kind, which no other kind passes
kind_reflects : (kind : ℕ) {P Q : Type 0} {a b : Bool} → Reflects P a → Reflects Q b
    → Reflects (KnownKind kind × ((kind ≡ standard → P) × (kind ≡ hidden → Q))) (cond (eqb kind standard) a (eqb kind hidden && b))
kind_reflects kind = go (reflects_eqb kind standard) (reflects_eqb kind hidden)
  where
    go : {P Q : Type 0} {a b c d : Bool} → Reflects (kind ≡ standard) c → Reflects (kind ≡ hidden) d → Reflects P a → Reflects Q b
        → Reflects (KnownKind kind × ((kind ≡ standard → P) × (kind ≡ hidden → Q))) (cond c a (d && b))
    go (holds e) t r s = reflects_map (λ p. (inl e, (λ u. p, λ u. absurd (omega arith)))) (λ k. k.1.0 e) r
    go (fails f) (holds e) r s = reflects_map (λ q. (inr e, (λ u. absurd (f u), λ u. q))) (λ k. k.1.1 e) s
    go (fails f) (fails g) r s = fails (λ k. ⊎_elim f g k.0)

pub four_or_five : (n : ℕ) → 4 ≤ n → n ≤ 5 → (n ≡ 4) ⊎ (n ≡ 5)
four_or_five n l m = go (reflects_eqb n 4)
  where
    go : {b : Bool} → Reflects (n ≡ 4) b → (n ≡ 4) ⊎ (n ≡ 5)
    go (holds e) = inl e
    go (fails f) = inr (omega arith)

pub supported_reflects : {magic : ℕ} (bytes : List ℕ) (told : ℕ) → (bytes ≡ vera_letters) ⊎ (bytes ≡ true_letters) → MagicIs bytes magic
    → Reflects (Supported bytes told) (version_rule magic told)
unfolding version_rule
supported_reflects bytes told known (spells_vera v g) =
    reflects_map (λ p. (λ u. (p.1, p.0), λ t. absurd (g t))) (λ k. ((k.0 v).1, (k.0 v).0))
    (reflects_and (reflects_leb told 5) (reflects_leb 2 told))
supported_reflects bytes told known (spells_true t f) =
    reflects_map (λ p. (λ v. absurd (f v), λ u. four_or_five told p.1 p.0)) (λ k. ⊎_elim (λ e. omega arith) (λ e. omega arith) (k.1 t))
    (reflects_and (reflects_leb told 5) (reflects_leb 4 told))
supported_reflects bytes told known (spells_neither f) = absurd (f known)

module _ (kind host_size : ℕ) (h : List ℕ) where
  pub version_reflects : {magic : ℕ} → IsVera h ⊎ IsTrue h → MagicIs (bytes_at 64 4 h) magic
      → Reflects (Keeps version kind host_size h) (version_rule magic (fields_of h).version)
  unfolding fields_of Keeps
  version_reflects known m = supported_reflects (bytes_at 64 4 h) (fields_of h).version known m

  zeros_reflects : {magic : ℕ} → IsVera h ⊎ IsTrue h → MagicIs (bytes_at 64 4 h) magic
      → Reflects (IsVera h → AllZero (part 76 16 h) × AllZero (part 132 120 h))
      (cond (eqb magic 0) (all_zero (part 76 16 h) && all_zero (part 132 120 h)) true)
  zeros_reflects known (spells_vera v g) =
      reflects_map (λ p u. p) (λ k. k v) (reflects_and (all_zero_reflects (part 76 16 h)) (all_zero_reflects (part 132 120 h)))
  zeros_reflects known (spells_true t f) = holds (λ v. absurd (f v))
  zeros_reflects known (spells_neither f) = absurd (f known)

  pub reserved_reflects : {magic : ℕ} → IsVera h ⊎ IsTrue h → MagicIs (bytes_at 64 4 h) magic
      → Reflects (Keeps reserved kind host_size h) (reserved_rule magic (fields_of h).flags h)
  unfolding fields_of Keeps reserved_rule
  reserved_reflects known m = reflects_and (reflects_eqb ((fields_of h).flags / 4) 0) (zeros_reflects known m)

  pub flags_reflects : Reflects (Keeps flags kind host_size h) (flags_rule (fields_of h).flags)
  unfolding fields_of Keeps flags_rule
  flags_reflects = reflects_eqb ((fields_of h).flags % 4) 0

  pub sectors_reflect : Reflects (Keeps sector_size kind host_size h) (sector_size_rule (fields_of h).sector_size)
  unfolding fields_of Keeps
  sectors_reflect = sector_size_reflects (fields_of h).sector_size

  pub hidden_size_reflects : Reflects (Keeps hidden_size kind host_size h) (hidden_size_rule kind (fields_of h).hidden_size (fields_of h).data_size)
  unfolding fields_of Keeps hidden_size_rule
  hidden_size_reflects =
      let zero = reflects_eqb (fields_of h).hidden_size 0 in
      rw and_assoc (kind_reflects kind zero (reflects_and (reflects_not zero) (reflects_eqb (fields_of h).hidden_size (fields_of h).data_size)))

-- the last line, of a layout: no other kind passes it, and no other sector size
pub area_reflects : (layout : Layout) (encrypted_size : ℕ)
    → Reflects (KnownKind layout.kind × SectorSize layout.sector_size × DataArea layout encrypted_size) (area_rule layout encrypted_size)
unfolding area_rule data_area_rule sectors_rule place_rule
area_reflects layout encrypted_size =
    let start = layout.data_start in
    let size = layout.data_size in
    let sectors = layout.sector_size in
    let ends = reflects_leb (start + size + 131072) layout.host_size in
    reflects_map
    (λ p.
    let place = p.1.1 in (
      place.0,
      p.1.0.0.0.0.0,
      record {
        encrypted = p.0;
        at_least = p.1.0.0.0.0.1;
        size_multiple = p.1.0.0.0.1;
        start_multiple = p.1.0.0.1;
        host_multiple = p.1.0.1;
        standard_start = λ e. (place.1.0 e).0;
        hidden_start = λ e. (place.1.1 e).0;
        fits = ⊎_elim (λ e. (place.1.0 e).1) (λ e. (place.1.1 e).1) place.0;
      },
    ))
    (λ q.
    let r = q.2 in (
      r.encrypted,
      (((((q.1, r.at_least), r.size_multiple), r.start_multiple), r.host_multiple), (q.0, (λ e. (r.standard_start e, r.fits), λ e. (r.hidden_start e, r.fits)))),
    ))
    (reflects_and (reflects_eqb encrypted_size size)
    (reflects_and
    (reflects_and
    (reflects_and (reflects_and (reflects_and (sector_size_reflects sectors) (reflects_leb 512 size)) (multiple_reflects size sectors))
    (multiple_reflects start sectors))
    (multiple_reflects layout.host_size sectors))
    (kind_reflects layout.kind (reflects_and (reflects_eqb start 131072) ends) (reflects_and (reflects_leb 131072 start) ends))))

pub data_area_reflects : (kind host_size index : ℕ) (h : List ℕ) → KnownKind kind → SectorSize (fields_of h).sector_size
    → Reflects (Keeps data_area kind host_size h) (area_rule (Told kind host_size index h) (fields_of h).encrypted_size)
unfolding fields_of accepted_layout Keeps
data_area_reflects kind host_size index h known sectors =
    let told = layout_tells kind host_size index h in
    reflects_map (λ p other layout tells. tells_area told tells p.2) (λ keeps. (known, sectors, keeps index (Told kind host_size index h) told))
    (area_reflects (Told kind host_size index h) (fields_of h).encrypted_size)
