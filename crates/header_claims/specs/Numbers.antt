-- Numbers of any count of bytes, and CRC-32 (RULES.md, Fields and CRC-32): laws that fix them, stated apart from their definitions,
-- which the contracts of `numbers` and `crc32` cite and every other claim uses. Assumes nothing.
use Rattle.std.specs.Prelude.{ℕ, ◌+◌, ◌*◌, ◌/◌, ◌%◌, ◌^◌, ◌≤◌, ◌<◌}
use mathlib.Core.{Path.◌≡◌, Logic.◌↔◌, Bool.{true, cond}, List.{List, [], ◌∷◌, ◌++◌, reverse}}
use lib.{Bits.bit_xor, Dec.eqb, ListN.{length, get_or, take, drop}}
use Rattle.fields.specs.Bytes.{field_part}
use Rattle.byte_tests.specs.Tests.{same_bytes, all_zero}
use Rattle.numbers.specs.Numbers.{big_endian, big_endian_bytes, little_endian, little_endian_bytes, ReadAs}
use Rattle.fields.specs.declared.Field.{Field}
use Rattle.crc32.specs.Crc32.{crc32}

-- every byte is zero
unfoldable pub AllZero : List ℕ → Type 0
AllZero bytes = (i : ℕ) → i < length bytes → get_or bytes i 0 ≡ 0

-- parts of bytes, tests of them, and numbers in either order
pub record SpellsNumbers : Type 0 where
  -- a field's bytes: so many from its offset on, cut where the bytes end
  pub fields : (field : Field) (bytes : List ℕ) → field_part field bytes ≡ take field.size (drop field.offset bytes)
  pub same_test : (bytes others : List ℕ) → (same_bytes bytes others ≡ true) ↔ (bytes ≡ others)
  pub zero_test : (bytes : List ℕ) → (all_zero bytes ≡ true) ↔ AllZero bytes
  -- big-endian: one byte more is one base-256 digit more, behind the others
  pub big_none : big_endian [] ≡ 0
  pub big_more : (bytes : List ℕ) (byte : ℕ) → big_endian (bytes ++ (byte ∷ [])) ≡ big_endian bytes * 256 + byte
  -- little-endian: the same, with the bytes in reverse
  pub little_reversed : (bytes : List ℕ) → little_endian bytes ≡ big_endian (reverse bytes)
  -- written little-endian: so many bytes, which spell what they have room for
  pub written_size : (size number : ℕ) → length (little_endian_bytes size number) ≡ size
  pub written_bytes : (size number i : ℕ) → get_or (little_endian_bytes size number) i 0 < 256
  pub written : (size number : ℕ) → little_endian (little_endian_bytes size number) ≡ number % 256 ^ size
  -- written big-endian: the same, with the bytes in reverse
  pub big_written : (size number : ℕ) → big_endian_bytes size number ≡ reverse (little_endian_bytes size number)
  -- written and read again, and read and written again
  pub big_read : (size number : ℕ) → big_endian (big_endian_bytes size number) ≡ number % 256 ^ size
  pub big_again : (bytes : List ℕ) → ((i : ℕ) → get_or bytes i 0 < 256) → big_endian_bytes (length bytes) (big_endian bytes) ≡ bytes
  -- read into 64 bits: modulo 2^64, and of at most eight bytes the number itself
  pub read_modulo : (number size r : ℕ) → ReadAs number size r → r ≡ number % 2 ^ 64
  pub read_whole : (number size r : ℕ) → ReadAs number size r → size ≤ 8 → r ≡ number

-- one bit of the register: it moves down, and takes the reflected polynomial where a 1 falls out
abbrev pub one_bit : ℕ → ℕ
one_bit c = cond (eqb (c % 2) 0) (c / 2) (bit_xor 0xEDB88320 (c / 2))

-- the register before the last exclusive-or
abbrev pub register : List ℕ → ℕ
register bytes = bit_xor 0xFFFFFFFF (crc32 bytes)

-- CRC-32 of ITU-T V.42
pub record ChecksBytes : Type 0 where
  -- of no bytes the register is as it starts; each byte is added to its low end, and eight bits are taken
  pub starts : register [] ≡ 0xFFFFFFFF
  pub more : (bytes : List ℕ) (byte : ℕ)
      → register (bytes ++ (byte ∷ [])) ≡ one_bit (one_bit (one_bit (one_bit (one_bit (one_bit (one_bit (one_bit (bit_xor byte (register bytes)))))))))
  -- the published check value, of the nine ASCII digits 1 to 9
  pub check_value : crc32 (0x31 ∷ 0x32 ∷ 0x33 ∷ 0x34 ∷ 0x35 ∷ 0x36 ∷ 0x37 ∷ 0x38 ∷ 0x39 ∷ []) ≡ 0xCBF43926
