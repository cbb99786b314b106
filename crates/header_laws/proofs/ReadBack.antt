-- A header with these parts is read back: its magic, its fields and its checksums, and the judgement accepts it. Assumes nothing.
use Prim.Native.Nat.{ℕ, zero, suc, ◌^◌, ◌≤◌, ◌<◌}
use native.Mathlib.Omega.{arith}
use native.Mathlib.Nat.{mod-eq_of_lt}
use mathlib.Core.{Path.{◌≡◌, refl, sym, ap, ◌∙◌}, Logic.{◌⊎◌, inl, inr, ⊎_elim}, Bool.{Bool, true, false, ◌&&◌, cond}, List.List}
use lib.{Dec.{leb, eqb}, ListN.drop}
use borrow.Author.Tests.{leb-true, eqb-true, le-leb, eq-eqb, ne_eqb}
use Rattle.bits.specs.Bits.{Bytes}
use Rattle.bits.proofs.BytesLaws.{bytes_take, bytes_drop}
use Rattle.fields.specs.Bytes.{field_part}
use Rattle.byte_tests.specs.Tests.{same_bytes, all_zero}
use Rattle.numbers.specs.Numbers.{big_endian, big_endian_bytes}
use Rattle.numbers.proofs.WrittenLaws.{big_endian_bytes_spell}
use Rattle.crc32.specs.Crc32.{crc32}
use Rattle.crc32.proofs.BoundLaws.{crc32_lt}
use Rattle.layout.specs.Rules.{standard, hidden, multiple, host_size_rule, sector_size_rule, data_area_rule, place_rule, sectors_rule}
use Rattle.layout.specs.declared.Layout.{Layout}
use Rattle.layout.proofs.{RuleLaws.{and_true_left, and_true_right, host_size_most, place_ends, size_least}, SectorSizeLaws.sector_size_most}
use Rattle.header_format.specs.Format.{checked_field, magic_number}
use Rattle.header.specs.Header.{magic_of, fields_of, checksums_match}
use Rattle.header.specs.Header.{is_header, reserved_rule, flags_rule, hidden_size_rule, accepted_layout, area_rule, judge}
use Rattle.header_format.specs.Format.{version_rule}
use Rattle.header_format.specs.declared.Fields.{Fields}
use Rattle.new_header.specs.NewHeader.{magic_bytes, new_fields}
use Rattle.header_laws.proofs.Parts.{Parts}
use Rattle.std.specs.Prelude.{Ok}

-- numbers that their fields have room for
pub record Small (f : Fields) : Type 0 where
  pub version_small : f.version < 256 ^ 2
  pub min_program_version_small : f.min_program_version < 256 ^ 2
  pub hidden_size_small : f.hidden_size < 256 ^ 8
  pub data_size_small : f.data_size < 256 ^ 8
  pub data_start_small : f.data_start < 256 ^ 8
  pub encrypted_size_small : f.encrypted_size < 256 ^ 8
  pub flags_small : f.flags < 256 ^ 4
  pub sector_size_small : f.sector_size < 256 ^ 4

-- a number that is spelt in a field, read again
pub spelt : (size number : ℕ) {bytes : List ℕ} → number < 256 ^ size → bytes ≡ big_endian_bytes size number → big_endian bytes ≡ number
spelt size number room e = ap big_endian e ∙ big_endian_bytes_spell size number ∙ mod-eq_of_lt room

magic_spelt : (magic : ℕ) → magic ≤ 1 → magic_number (magic_bytes magic) ≡ magic
unfolding magic_number magic_bytes same_bytes
magic_spelt zero known = refl
magic_spelt (suc zero) known = refl
magic_spelt (suc (suc magic)) known = absurd (omega arith)

module _ {f : Fields} {magic : ℕ} {salt keys h : List ℕ} (p : Parts f magic salt keys h) where
  pub fields_back : Small f → fields_of h ≡ f
  unfolding fields_of
  fields_back s =
      let version = spelt 2 f.version s.version_small p.version_part in
      let program = spelt 2 f.min_program_version s.min_program_version_small p.min_program_version_part in
      let hidden_size = spelt 8 f.hidden_size s.hidden_size_small p.hidden_size_part in
      let size = spelt 8 f.data_size s.data_size_small p.data_size_part in
      let start = spelt 8 f.data_start s.data_start_small p.data_start_part in
      let encrypted = spelt 8 f.encrypted_size s.encrypted_size_small p.encrypted_size_part in
      let flags = spelt 4 f.flags s.flags_small p.flags_part in
      let sector_size = spelt 4 f.sector_size s.sector_size_small p.sector_size_part in
      λ i. record {
        version = version i;
        min_program_version = program i;
        hidden_size = hidden_size i;
        data_size = size i;
        data_start = start i;
        encrypted_size = encrypted i;
        flags = flags i;
        sector_size = sector_size i;
      }

  pub magic_back : magic ≤ 1 → magic_of h ≡ magic
  unfolding magic_of
  magic_back known = ap magic_number p.magic_part ∙ magic_spelt magic known

  pub checksums_back : Bytes keys → Bytes h → checksums_match h ≡ true
  unfolding checksums_match
  checksums_back small_keys small =
      let keys_sum = spelt 4 (crc32 keys) (crc32_lt keys small_keys) p.key_checksum_part in
      let checked = field_part checked_field h in
      let fields_sum = spelt 4 (crc32 checked) (crc32_lt checked (bytes_take 188 (drop 64 h) (bytes_drop 64 h small))) p.header_checksum_part in
      simp (eq-eqb _ _ (ap crc32 p.keys_part ∙ sym keys_sum), eq-eqb _ _ (sym fields_sum))

  header_back : magic ≤ 1 → Bytes keys → Bytes h → is_header h ≡ true
  unfolding is_header
  header_back known small_keys small =
      simp (eq-eqb _ _ p.whole, magic_back known, le-leb _ _ known, checksums_back small_keys small)

  reserved_back : (m : ℕ) → reserved_rule m 0 h ≡ true
  unfolding reserved_rule all_zero
  reserved_back m = rw (p.reserved_part, p.more_reserved_part) (go (eqb m 0))
    where
      go : (b : Bool) → cond b true true ≡ true
      go true = refl
      go false = refl

-- ---- a new header's numbers fit their fields, and keep every line

-- H as it is made keeps its line, for either kind
hidden_size_made : (kind size : ℕ) → 512 ≤ size → (eqb kind standard ≡ true) ⊎ (eqb kind hidden ≡ true)
    → hidden_size_rule kind (cond (eqb kind hidden) size 0) size ≡ true
unfolding hidden_size_rule
hidden_size_made zero size least known = refl
hidden_size_made (suc zero) size least known = simp (ne_eqb size 0 (λ e. omega arith), eq-eqb size size refl)
hidden_size_made (suc (suc kind)) size least known =
    let other = suc (suc kind) in
    absurd (⊎_elim (λ e. omega (arith, eqb-true other 0 e)) (λ e. omega (arith, eqb-true other 1 e)) known)

version_small_lem : (magic version : ℕ) → version_rule magic version ≡ true → version < 256 ^ 2
unfolding version_rule
version_small_lem magic version kept =
    let least = cond (eqb magic 0) (leb 2 version) (leb 4 version) in
    omega (arith, leb-true version 5 (and_true_left (leb version 5) least kept))

module _ (layout : Layout) (host : host_size_rule layout.host_size ≡ true) (sectors : sector_size_rule layout.sector_size ≡ true)
    (area : data_area_rule layout ≡ true) where
  place : place_rule layout ≡ true
  unfolding data_area_rule
  place = and_true_right (sectors_rule layout) (place_rule layout) area

  hidden_size_most : (new_fields layout).hidden_size ≤ layout.data_size
  unfolding new_fields
  hidden_size_most = go (eqb layout.kind hidden)
    where
      go : (b : Bool) → cond b layout.data_size 0 ≤ layout.data_size
      go true = omega arith
      go false = omega arith

  pub new_fields_small : layout.version < 256 ^ 2 → layout.min_program_version < 256 ^ 2 → Small (new_fields layout)
  unfolding new_fields
  new_fields_small version program =
      let ends = place_ends layout place in
      let most = host_size_most layout.host_size host in
      record {
        version_small = version;
        min_program_version_small = program;
        hidden_size_small = omega (arith, hidden_size_most, ends, most);
        data_size_small = omega (arith, ends, most);
        data_start_small = omega (arith, ends, most);
        encrypted_size_small = omega (arith, ends, most);
        flags_small = omega arith;
        sector_size_small = omega (arith, sector_size_most layout.sector_size sectors);
      }

  known_kind : (a b c d : Bool) → cond a c (b && d) ≡ true → (a ≡ true) ⊎ (b ≡ true)
  known_kind true b c d e = inl refl
  known_kind false true c d e = inr refl
  known_kind false false c d e = inr e

  hidden_size_kept : hidden_size_rule layout.kind (new_fields layout).hidden_size layout.data_size ≡ true
  unfolding place_rule new_fields
  hidden_size_kept =
      hidden_size_made layout.kind layout.data_size (size_least layout area)
      (known_kind (eqb layout.kind standard) (eqb layout.kind hidden) _ _ place)

  area_kept : (magic : ℕ)
      → area_rule (accepted_layout layout.kind layout.host_size layout.candidate magic (new_fields layout)) (new_fields layout).encrypted_size
      ≡ true
  unfolding area_rule accepted_layout new_fields data_area_rule sectors_rule multiple place_rule
  area_kept magic = simp (eq-eqb layout.data_size layout.data_size refl) area

  -- the judgement of a header with the parts of a new one
  pub judged_back : {salt keys h : List ℕ} → Parts (new_fields layout) layout.magic salt keys h → Bytes keys → Bytes h → layout.magic ≤ 1
      → layout.min_program_version < 256 ^ 2 → version_rule layout.magic layout.version ≡ true
      → judge layout.kind layout.host_size layout.candidate h ≡ Ok layout
  unfolding judge flags_rule new_fields accepted_layout
  judged_back {h = h} p small_keys small known program supported =
      let fields = fields_back p (new_fields_small (version_small_lem layout.magic layout.version supported) program) in
      let magic = magic_back p known in
      let told = accepted_layout layout.kind layout.host_size layout.candidate (magic_of h) (fields_of h) in
      let version : version_rule (magic_of h) (fields_of h).version ≡ true = rw (magic, fields) supported in
      let reserved : reserved_rule (magic_of h) (fields_of h).flags h ≡ true = rw fields (reserved_back p (magic_of h)) in
      let flags : flags_rule (fields_of h).flags ≡ true = rw fields refl in
      let sector_size : sector_size_rule (fields_of h).sector_size ≡ true = rw fields sectors in
      let hidden_size : hidden_size_rule layout.kind (fields_of h).hidden_size (fields_of h).data_size ≡ true = rw fields hidden_size_kept in
      let data_area : area_rule told (fields_of h).encrypted_size ≡ true = rw (magic, fields) (area_kept layout.magic) in
      let same : told ≡ layout = rw (magic, fields) refl in
      simp (header_back p known small_keys small, version, reserved, flags, sector_size, hidden_size, data_area) (ap Ok same)
