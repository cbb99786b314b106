-- The parts of an accepted header, written anew, give its bytes back where the reserved ones are zero. Assumes nothing.
use Prim.Native.Nat.{ℕ, zero, suc, ◌+◌, ◌/◌, ◌%◌, ◌≤◌}
use native.Mathlib.Omega.{arith}
use mathlib.Core.{Path.{◌≡◌, refl, sym, ap, ◌∙◌}, Bool.{Bool, true, false, ◌&&◌, not, cond, true≢false}, List.{List, [], ◌∷◌}}
use lib.{Dec.{leb, eqb}, ListN.{length, drop, replicate, length-take, length-drop}}
use borrow.Author.Tests.{eqb-true, ne_eqb}
use Rattle.bits.specs.Bits.{Bytes}
use Rattle.bits.proofs.BytesLaws.{bytes_take, bytes_drop, bytes_get_d}
use Rattle.fields.specs.{Bytes.field_part, declared.Field.Field}
use Rattle.byte_tests.specs.Tests.{same_bytes, all_zero}
use Rattle.byte_tests.proofs.BytesLaws.{same_bytes_true, all_zero_replicate}
use Rattle.fields.proofs.PartLaws.{SameParts, same_parts, same_whole}
use Rattle.numbers.specs.Numbers.{big_endian, big_endian_bytes}
use Rattle.numbers.proofs.WrittenLaws.{big_endian_bytes_again}
use Rattle.crc32.specs.Crc32.{crc32}
use Rattle.layout.specs.{Rules.{hidden, data_area_rule}, declared.Layout.Layout}
use Rattle.layout.proofs.RuleLaws.{and_true_left, and_true_right}
use Rattle.header_format.specs.Format.{salt_field, magic_field, version_field, min_program_version_field, key_checksum_field, reserved_field, hidden_size_field}
use Rattle.header_format.specs.Format.{data_size_field, data_start_field, encrypted_size_field, flags_field, sector_size_field, more_reserved_field}
use Rattle.header_format.specs.Format.{header_checksum_field, keys_field, checked_field, vera, vera_magic, true_magic, magic_number}
use Rattle.header.specs.Header.{magic_of, fields_of}
use Rattle.header.specs.Header.{checksums_match, is_header, reserved_rule, flags_rule, hidden_size_rule, accepted_layout, area_rule}
use Rattle.header.proofs.JudgeLaws.{Kept}
use Rattle.new_header.specs.NewHeader.{magic_bytes, new_fields, new_header}
use Rattle.header_laws.proofs.Parts.{Parts, new_header_parts}

-- a number that bytes spell, spelt again
again : (size number : ℕ) (bytes : List ℕ) → length bytes ≡ size → Bytes bytes → number ≡ big_endian bytes
    → big_endian_bytes size number ≡ bytes
again size number bytes whole small e =
    ap (λ (n : ℕ). big_endian_bytes n number) (sym whole)
    ∙ ap (big_endian_bytes (length bytes)) e
    ∙ big_endian_bytes_again bytes (bytes_get_d bytes small)

-- a known magic, spelt again
magic_again : (bytes : List ℕ) → leb (magic_number bytes) 1 ≡ true → magic_bytes (magic_number bytes) ≡ bytes
unfolding magic_number magic_bytes
magic_again bytes known = go (same_bytes bytes vera_magic) (same_bytes bytes true_magic) refl refl known
  where
    go : (a b : Bool) → same_bytes bytes vera_magic ≡ a → same_bytes bytes true_magic ≡ b → leb (cond a 0 (cond b 1 2)) 1 ≡ true
        → cond (eqb (cond a 0 (cond b 1 2)) 0) vera_magic true_magic ≡ bytes
    go true b e f k = sym (same_bytes_true bytes vera_magic e)
    go false true e f k = sym (same_bytes_true bytes true_magic f)
    go false false e f k = absurd (true≢false (sym k))

-- the hidden size that an accepted header has is the one that is written
hidden_again : (kind hidden_size size : ℕ) → hidden_size_rule kind hidden_size size ≡ true → cond (eqb kind hidden) size 0 ≡ hidden_size
unfolding hidden_size_rule
hidden_again zero hidden_size size kept = sym (eqb-true hidden_size 0 kept)
hidden_again (suc zero) hidden_size size kept = sym (eqb-true hidden_size size (and_true_right (not (eqb hidden_size 0)) (eqb hidden_size size) kept))
hidden_again (suc (suc kind)) hidden_size size kept =
    let neither : hidden_size_rule (suc (suc kind)) hidden_size size ≡ false =
    rw (ne_eqb (suc (suc kind)) 0 (λ e. omega arith), ne_eqb (suc (suc kind)) 1 (λ e. omega arith)) refl in
    absurd (true≢false (sym kept ∙ neither))

-- the reserved bytes are zero
abbrev pub Zeros : List ℕ → Type 0
Zeros h = (all_zero (field_part reserved_field h) ≡ true) × (all_zero (field_part more_reserved_field h) ≡ true)

module _ (kind host_size index : ℕ) (h : List ℕ) (layout : Layout) (kept : Kept kind host_size index h layout) (small : Bytes h) where
  known : (eqb (length h) 512 && leb (magic_of h) 1) ≡ true
  unfolding is_header
  known = and_true_left (eqb (length h) 512 && leb (magic_of h) 1) (checksums_match h) kept.header

  whole : length h ≡ 512
  whole = eqb-true (length h) 512 (and_true_left (eqb (length h) 512) (leb (magic_of h) 1) known)

  sums : checksums_match h ≡ true
  unfolding is_header
  sums = and_true_right (eqb (length h) 512 && leb (magic_of h) 1) (checksums_match h) kept.header

  keys_sum_lem : crc32 (field_part keys_field h) ≡ big_endian (field_part key_checksum_field h)
  unfolding checksums_match
  keys_sum_lem =
      let first = eqb (crc32 (field_part keys_field h)) (big_endian (field_part key_checksum_field h)) in
      let second = eqb (crc32 (field_part checked_field h)) (big_endian (field_part header_checksum_field h)) in
      eqb-true (crc32 (field_part keys_field h)) (big_endian (field_part key_checksum_field h)) (and_true_left first second sums)

  fields_sum_lem : crc32 (field_part checked_field h) ≡ big_endian (field_part header_checksum_field h)
  unfolding checksums_match
  fields_sum_lem =
      let first = eqb (crc32 (field_part keys_field h)) (big_endian (field_part key_checksum_field h)) in
      let second = eqb (crc32 (field_part checked_field h)) (big_endian (field_part header_checksum_field h)) in
      eqb-true (crc32 (field_part checked_field h)) (big_endian (field_part header_checksum_field h)) (and_true_right first second sums)

  -- a field of the header has as many bytes as it should
  part_size : (f : Field) → f.offset + f.size ≤ 512 → length (field_part f h) ≡ f.size
  part_size f inside = simp (length-take, length-drop) (omega (arith, whole))

  part_bytes : (f : Field) → Bytes (field_part f h)
  part_bytes f = bytes_take f.size (drop f.offset h) (bytes_drop f.offset h small)

  -- a number of the header, spelt again
  number_again : (f : Field) (number : ℕ) → f.offset + f.size ≤ 512 → number ≡ big_endian (field_part f h)
      → big_endian_bytes f.size number ≡ field_part f h
  number_again f number inside e = again f.size number (field_part f h) (part_size f inside) (part_bytes f) e

  salt_size_lem : length (field_part salt_field h) ≡ 64
  salt_size_lem = part_size salt_field (omega arith)

  keys_size_lem : length (field_part keys_field h) ≡ 256
  keys_size_lem = part_size keys_field (omega arith)

  -- what the header tells
  abbrev told : Layout
  told = accepted_layout kind host_size index (magic_of h) (fields_of h)

  no_flags : (fields_of h).flags ≡ 0
  unfolding reserved_rule flags_rule
  no_flags =
      let high = eqb ((fields_of h).flags / 4) 0 in
      let zeros = cond (eqb (magic_of h) vera) (all_zero (field_part reserved_field h) && all_zero (field_part more_reserved_field h)) true in
      omega (arith, eqb-true ((fields_of h).flags / 4) 0 (and_true_left high zeros kept.reserved), eqb-true ((fields_of h).flags % 4) 0 kept.flags)

  all_encrypted : (fields_of h).encrypted_size ≡ (fields_of h).data_size
  unfolding area_rule accepted_layout
  all_encrypted =
      let same = eqb (fields_of h).encrypted_size (fields_of h).data_size in
      eqb-true (fields_of h).encrypted_size (fields_of h).data_size (and_true_left same (data_area_rule told) kept.data_area)

  abbrev written : List ℕ
  written = new_header told (field_part salt_field h) (field_part keys_field h)

  parts : Parts (new_fields told) (magic_of h) (field_part salt_field h) (field_part keys_field h) written
  unfolding accepted_layout
  parts = new_header_parts told (field_part salt_field h) (field_part keys_field h) salt_size_lem keys_size_lem

  -- the fields from the magic on, up to the header's checksum
  checked_again : field_part reserved_field h ≡ replicate 16 0 → field_part more_reserved_field h ≡ replicate 120 0
      → SameParts written h 64 (4 ∷ 2 ∷ 2 ∷ 4 ∷ 16 ∷ 8 ∷ 8 ∷ 8 ∷ 8 ∷ 4 ∷ 4 ∷ 120 ∷ [])
  unfolding accepted_layout new_fields fields_of magic_of
  checked_again zeros more =
      let magic = and_true_right (eqb (length h) 512) (leb (magic_of h) 1) known in
      let hidden_size = hidden_again kind (fields_of h).hidden_size (fields_of h).data_size kept.hidden_size in (
        parts.magic_part ∙ magic_again (field_part magic_field h) magic,
        (
          parts.version_part ∙ number_again version_field (fields_of h).version (omega arith) refl,
          (
            parts.min_program_version_part ∙ number_again min_program_version_field (fields_of h).min_program_version (omega arith) refl,
            (
              parts.key_checksum_part ∙ number_again key_checksum_field (crc32 (field_part keys_field h)) (omega arith) keys_sum_lem,
              (
                parts.reserved_part ∙ sym zeros,
                (
                  parts.hidden_size_part ∙ number_again hidden_size_field (new_fields told).hidden_size (omega arith) hidden_size,
                  (
                    parts.data_size_part ∙ number_again data_size_field (fields_of h).data_size (omega arith) refl,
                    (
                      parts.data_start_part ∙ number_again data_start_field (fields_of h).data_start (omega arith) refl,
                      (
                        parts.encrypted_size_part ∙ number_again encrypted_size_field (fields_of h).data_size (omega arith) (sym all_encrypted),
                        (
                          parts.flags_part ∙ number_again flags_field 0 (omega arith) (sym no_flags),
                          (
                            parts.sector_size_part ∙ number_again sector_size_field (fields_of h).sector_size (omega arith) refl,
                            (parts.more_reserved_part ∙ sym more, tt),
                          ),
                        ),
                      ),
                    ),
                  ),
                ),
              ),
            ),
          ),
        ),
      )

  told_again : field_part reserved_field h ≡ replicate 16 0 → field_part more_reserved_field h ≡ replicate 120 0 → written ≡ h
  told_again zeros more =
      let checked : field_part checked_field written ≡ field_part checked_field h =
      same_parts written h 64 (4 ∷ 2 ∷ 2 ∷ 4 ∷ 16 ∷ 8 ∷ 8 ∷ 8 ∷ 8 ∷ 4 ∷ 4 ∷ 120 ∷ []) (checked_again zeros more) in
      let sum = number_again header_checksum_field (crc32 (field_part checked_field h)) (omega arith) fields_sum_lem in
      let summed = parts.header_checksum_part ∙ ap (λ (bytes : List ℕ). big_endian_bytes 4 (crc32 bytes)) checked ∙ sum in
      same_whole written h 512 (omega (arith, parts.whole)) (omega (arith, whole))
      (same_parts written h 0 (64 ∷ 188 ∷ 4 ∷ 256 ∷ []) (parts.salt_part, (checked, (summed, (parts.keys_part, tt)))))

  zero_part : (f : Field) → f.offset + f.size ≤ 512 → all_zero (field_part f h) ≡ true → field_part f h ≡ replicate f.size 0
  zero_part f inside zeros = all_zero_replicate (field_part f h) zeros ∙ ap (λ (n : ℕ). replicate n 0) (part_size f inside)

  pub written_again_lem : Zeros h → new_header layout (field_part salt_field h) (field_part keys_field h) ≡ h
  written_again_lem zeros =
      ap (λ (l : Layout). new_header l (field_part salt_field h) (field_part keys_field h)) (sym kept.told)
      ∙ told_again (zero_part reserved_field (omega arith) zeros.0) (zero_part more_reserved_field (omega arith) zeros.1)

  -- a header that is the same when it is written again has them so
  pub again_zeros : new_header layout (field_part salt_field h) (field_part keys_field h) ≡ h → Zeros h
  unfolding all_zero
  again_zeros e =
      let p = new_header_parts layout (field_part salt_field h) (field_part keys_field h) salt_size_lem keys_size_lem in
      let zeros : field_part reserved_field h ≡ replicate 16 0 = ap (field_part reserved_field) (sym e) ∙ p.reserved_part in
      let more : field_part more_reserved_field h ≡ replicate 120 0 = ap (field_part more_reserved_field) (sym e) ∙ p.more_reserved_part in
      (ap all_zero zeros, ap all_zero more)

  -- .. and so has one of VERA's
  pub vera_zeros : layout.magic ≡ vera → Zeros h
  unfolding reserved_rule accepted_layout
  vera_zeros magic =
      let is_vera : magic_of h ≡ vera = ap (λ (l : Layout). l.magic) kept.told ∙ magic in
      let first = all_zero (field_part reserved_field h) in
      let second = all_zero (field_part more_reserved_field h) in
      let both : (first && second) ≡ true =
      rw is_vera at (and_true_right (eqb ((fields_of h).flags / 4) 0) (cond (eqb (magic_of h) vera) (first && second) true) kept.reserved) in
      (and_true_left first second both, and_true_right first second both)
