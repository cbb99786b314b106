-- What stands in a written header, field by field. Assumes nothing.
use Prim.Native.Nat.{ℕ, suc}
use native.Mathlib.Nat.{zero-lt-suc}
use mathlib.Core.{Path.{◌≡◌, refl, sym, ap, subst, ◌∙◌}, Bool.{Bool, true, false, cond}, List.{List, [], ◌∷◌, ◌++◌}}
use lib.{Dec.{leb, eqb, lit≤}, ListN.{length, get_or, drop, replicate}}
use borrow.Author.Tests.{leb-true}
use Rattle.bits.specs.Bits.{Bytes}
use Rattle.bits.proofs.BytesLaws.{bytes_replicate}
use Rattle.fields.specs.{Bytes.field_part, declared.Field.Field}
use Rattle.numbers.specs.Numbers.{big_endian_bytes}
use Rattle.numbers.proofs.WrittenLaws.{big_endian_bytes_length}
use Rattle.crc32.specs.Crc32.{crc32}
use Rattle.layout.specs.declared.Layout.{Layout}
use Rattle.header_format.specs.Format.{header_bytes, salt_field, magic_field, version_field, min_program_version_field, key_checksum_field, reserved_field}
use Rattle.header_format.specs.Format.{hidden_size_field, data_size_field, data_start_field, encrypted_size_field, flags_field, sector_size_field}
use Rattle.header_format.specs.Format.{more_reserved_field, header_checksum_field, keys_field, checked_field, vera, vera_magic, true_magic}
use Rattle.header_format.specs.declared.Fields.{Fields}
use Rattle.new_header.specs.NewHeader.{magic_bytes, new_fields, spelling, number_contents, contents, laid, summed, new_header}
use Rattle.header_laws.proofs.ContentLaws.{all_apart, Fit, fit_append, laid_length, laid_apart, laid_at}
use Rattle.header_laws.proofs.ContentLaws.{bytes_big_endian, bytes_laid}

-- a header that holds these fields, and zeros where there is none
pub record Parts (f : Fields) (magic : ℕ) (salt keys h : List ℕ) : Type 0 where
  pub whole : length h ≡ header_bytes
  pub salt_part : field_part salt_field h ≡ salt
  pub magic_part : field_part magic_field h ≡ magic_bytes magic
  pub version_part : field_part version_field h ≡ big_endian_bytes 2 f.version
  pub min_program_version_part : field_part min_program_version_field h ≡ big_endian_bytes 2 f.min_program_version
  pub key_checksum_part : field_part key_checksum_field h ≡ big_endian_bytes 4 (crc32 keys)
  pub reserved_part : field_part reserved_field h ≡ replicate 16 0
  pub hidden_size_part : field_part hidden_size_field h ≡ big_endian_bytes 8 f.hidden_size
  pub data_size_part : field_part data_size_field h ≡ big_endian_bytes 8 f.data_size
  pub data_start_part : field_part data_start_field h ≡ big_endian_bytes 8 f.data_start
  pub encrypted_size_part : field_part encrypted_size_field h ≡ big_endian_bytes 8 f.encrypted_size
  pub flags_part : field_part flags_field h ≡ big_endian_bytes 4 f.flags
  pub sector_size_part : field_part sector_size_field h ≡ big_endian_bytes 4 f.sector_size
  pub more_reserved_part : field_part more_reserved_field h ≡ replicate 120 0
  pub header_checksum_part : field_part header_checksum_field h ≡ big_endian_bytes 4 (crc32 (field_part checked_field h))
  pub keys_part : field_part keys_field h ≡ keys

magic_bytes_length : (magic : ℕ) → length (magic_bytes magic) ≡ 4
unfolding magic_bytes
magic_bytes_length magic = go (eqb magic vera)
  where
    go : (b : Bool) → length (cond b vera_magic true_magic) ≡ 4
    go true = refl
    go false = refl

magic_bytes_small : (magic : ℕ) → Bytes (magic_bytes magic)
unfolding magic_bytes
magic_bytes_small magic = go (eqb magic vera)
  where
    go : (b : Bool) → Bytes (cond b vera_magic true_magic)
    go true = (lit≤ tt, (lit≤ tt, (lit≤ tt, (lit≤ tt, tt))))
    go false = (lit≤ tt, (lit≤ tt, (lit≤ tt, (lit≤ tt, tt))))

module _ (layout : Layout) (salt keys : List ℕ) (salt_size : length salt ≡ 64) (keys_size : length keys ≡ 256) where
  abbrev zeros : List ℕ
  zeros = replicate 512 0

  -- all fields but the checksums, in order
  abbrev first : List (Field × List ℕ)
  first =
      (salt_field, salt)
      ∷ (magic_field, magic_bytes layout.magic)
      ∷ (keys_field, keys)
      ∷ spelling version_field (new_fields layout).version
      ∷ spelling min_program_version_field (new_fields layout).min_program_version
      ∷ spelling hidden_size_field (new_fields layout).hidden_size
      ∷ spelling data_size_field (new_fields layout).data_size
      ∷ spelling data_start_field (new_fields layout).data_start
      ∷ spelling encrypted_size_field (new_fields layout).encrypted_size
      ∷ spelling flags_field (new_fields layout).flags
      ∷ spelling sector_size_field (new_fields layout).sector_size
      ∷ []

  -- a header with these, and with the checksum of the keys
  abbrev base : List ℕ
  base = laid first zeros

  abbrev keys_sum : List (Field × List ℕ)
  keys_sum = spelling key_checksum_field (crc32 (field_part keys_field base)) ∷ []

  abbrev keyed : List ℕ
  keyed = laid keys_sum base

  abbrev fields_sum : List (Field × List ℕ)
  fields_sum = spelling header_checksum_field (crc32 (field_part checked_field keyed)) ∷ []

  -- every field, in order
  abbrev all : List (Field × List ℕ)
  all = first ++ (keys_sum ++ fields_sum)

  header_laid : new_header layout salt keys ≡ laid all zeros
  unfolding new_header summed laid contents number_contents
  header_laid = refl

  header_last : new_header layout salt keys ≡ laid fields_sum keyed
  unfolding new_header summed laid contents number_contents
  header_last = refl

  be : (size number : ℕ) → length (big_endian_bytes size number) ≡ size
  be = big_endian_bytes_length

  first_fit : Fit 512 first
  first_fit = (
    (salt_size, refl),
    (
      (magic_bytes_length layout.magic, refl),
      (
        (keys_size, refl),
        (
          (be 2 _, refl),
          (
            (be 2 _, refl),
            ((be 8 _, refl), ((be 8 _, refl), ((be 8 _, refl), ((be 8 _, refl), ((be 4 _, refl), ((be 4 _, refl), tt)))))),
          ),
        ),
      ),
    ),
  )

  keys_sum_fit : Fit 512 keys_sum
  keys_sum_fit = ((be 4 _, refl), tt)

  fields_sum_fit : Fit 512 fields_sum
  fields_sum_fit = ((be 4 _, refl), tt)

  all_fit : Fit 512 all
  all_fit = fit_append 512 first (keys_sum ++ fields_sum) first_fit (fit_append 512 keys_sum fields_sum keys_sum_fit fields_sum_fit)

  keyed_length : length keyed ≡ 512
  keyed_length = laid_length 512 keys_sum base (laid_length 512 first zeros refl first_fit) keys_sum_fit

  -- the field at an index, and its bytes
  abbrev at : ℕ → Field × List ℕ
  at k = get_or all k (salt_field, [])

  found : (k : ℕ) → leb (suc k) 13 ≡ true → all_apart (at k).0 (drop (suc k) all) ≡ true
      → field_part (at k).0 (new_header layout salt keys) ≡ (at k).1
  found k inside away =
      ap (field_part (at k).0) header_laid
      ∙ laid_at 512 k all (salt_field, []) zeros refl all_fit (leb-true (suc k) 13 inside) away

  untouched : (f : Field) → all_apart f all ≡ true → field_part f (new_header layout salt keys) ≡ field_part f zeros
  untouched f away = ap (field_part f) header_laid ∙ laid_apart 512 f all zeros refl all_fit away

  keys_summed : field_part keys_field base ≡ keys
  keys_summed = laid_at 512 2 first (salt_field, []) zeros refl first_fit (leb-true 3 11 refl) refl

  -- the last checksum is not in what it is of
  fields_summed : field_part checked_field (new_header layout salt keys) ≡ field_part checked_field keyed
  fields_summed = ap (field_part checked_field) header_last ∙ laid_apart 512 checked_field fields_sum keyed keyed_length fields_sum_fit refl

  pub new_header_parts : Parts (new_fields layout) layout.magic salt keys (new_header layout salt keys)
  new_header_parts =
      record {
        whole = ap length header_laid ∙ laid_length 512 all zeros refl all_fit;
        salt_part = found 0 refl refl;
        magic_part = found 1 refl refl;
        keys_part = found 2 refl refl;
        version_part = found 3 refl refl;
        min_program_version_part = found 4 refl refl;
        hidden_size_part = found 5 refl refl;
        data_size_part = found 6 refl refl;
        data_start_part = found 7 refl refl;
        encrypted_size_part = found 8 refl refl;
        flags_part = found 9 refl refl;
        sector_size_part = found 10 refl refl;
        key_checksum_part = found 11 refl refl ∙ ap (λ (bytes : List ℕ). big_endian_bytes 4 (crc32 bytes)) keys_summed;
        header_checksum_part = found 12 refl refl ∙ ap (λ (bytes : List ℕ). big_endian_bytes 4 (crc32 bytes)) (sym fields_summed);
        reserved_part = untouched reserved_field refl;
        more_reserved_part = untouched more_reserved_field refl;
      }

  pub new_header_bytes : Bytes salt → Bytes keys → Bytes (new_header layout salt keys)
  new_header_bytes small_salt small_keys =
      let b = bytes_big_endian in
      let magic = magic_bytes_small layout.magic in
      subst Bytes (sym header_laid)
      (bytes_laid all zeros (
        small_salt,
        (
          magic,
          (
            small_keys,
            (b 2 _, (b 2 _, (b 8 _, (b 8 _, (b 8 _, (b 8 _, (b 4 _, (b 4 _, (b 4 _, (b 4 _, tt)))))))))),
          ),
        ),
      )
      (bytes_replicate 512 0 (zero-lt-suc 255)))
