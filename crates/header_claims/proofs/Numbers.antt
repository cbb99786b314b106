-- Numbers of any count of bytes keep their laws, and so does CRC-32. Assumes nothing.
use Prim.Native.Nat.{ℕ, zero, suc, ◌*◌, ◌/◌, ◌%◌, ◌<◌}
use native.Mathlib.Nat.{mod-lt, zero-lt-suc, zero-mul, one-mul}
use native.Mathlib.Omega.{arith}
use mathlib.Core.{Path.{◌≡◌, refl, sym, ap, ◌∙◌}, Bool.cond, List.{List, [], ◌∷◌, ◌++◌, reverse, reverse-cons}}
use lib.{Bits.{bit_xor, xor_zero_l}, Dec.eqb}
use Rattle.numbers.specs.Numbers.{big_endian, big_endian_from, big_endian_bytes, little_endian, little_endian_bytes}
use Rattle.numbers.proofs.NumbersLaws.{big_endian_snoc}
use Rattle.numbers.proofs.WrittenLaws.{little_endian_bytes_length, little_endian_bytes_lt, little_endian_bytes_spell}
use Rattle.numbers.proofs.WrittenLaws.{big_endian_bytes_spell, big_endian_bytes_again}
use Rattle.crc32.specs.Crc32.{crc32, crc_from, bit_steps, bit_step}
use Rattle.bits.proofs.XorLaws.{xor_cancel_left}
use Rattle.crc32.proofs.BitStepLaws.{crc_from_append}
use Rattle.header_claims.proofs.Reflects.{true_exactly}
use Rattle.header_claims.proofs.HeaderLaws.{same_bytes_reflects, all_zero_reflects}
use Rattle.header_claims.specs.Numbers.{SpellsNumbers, ChecksBytes, one_bit, register}

little_endian_reversed : (bytes : List ℕ) → little_endian bytes ≡ big_endian (reverse bytes)
unfolding little_endian big_endian big_endian_from
little_endian_reversed [] = refl
little_endian_reversed (byte ∷ bytes) =
    let rest = little_endian_reversed bytes in
    omega (arith, rest, big_endian_snoc (reverse bytes) byte, ap big_endian (reverse-cons byte bytes))

big_endian_bytes_reversed : (size number : ℕ) → big_endian_bytes size number ≡ reverse (little_endian_bytes size number)
unfolding big_endian_bytes little_endian_bytes
big_endian_bytes_reversed zero number = refl
big_endian_bytes_reversed (suc size) number =
    ap (λ (bytes : List ℕ). bytes ++ (number % 256 ∷ [])) (big_endian_bytes_reversed size (number / 256))
    ∙ sym (reverse-cons (number % 256) (little_endian_bytes size (number / 256)))

pub spells_numbers : SpellsNumbers
unfolding big_endian big_endian_from
spells_numbers =
    record {
      fields = λ field bytes. refl;
      same_test = λ bytes others. true_exactly (same_bytes_reflects bytes others);
      zero_test = λ bytes. true_exactly (all_zero_reflects bytes);
      big_none = refl;
      big_more = big_endian_snoc;
      little_reversed = little_endian_reversed;
      written_size = little_endian_bytes_length;
      written_bytes = little_endian_bytes_lt;
      written = little_endian_bytes_spell;
      big_written = big_endian_bytes_reversed;
      big_read = big_endian_bytes_spell;
      big_again = big_endian_bytes_again;
      read_modulo = λ number size r read. read.modulo;
      read_whole = λ number size r read small. read.whole small;
    }

-- one bit, as the definition takes it
digit_step : (d c : ℕ) → d < 2 → bit_xor (d * 0xEDB88320) c ≡ cond (eqb d 0) c (bit_xor 0xEDB88320 c)
digit_step zero c h = ap (λ (z : ℕ). bit_xor z c) (zero-mul 0xEDB88320) ∙ xor_zero_l c
digit_step (suc zero) c h = ap (λ (z : ℕ). bit_xor z c) (one-mul 0xEDB88320)
digit_step (suc (suc d)) c h = absurd (omega arith)

one_bit_lem : (c : ℕ) → bit_step c ≡ one_bit c
unfolding bit_step
one_bit_lem c = digit_step (c % 2) (c / 2) (mod-lt c (zero-lt-suc 1))

register_is : (bytes : List ℕ) → register bytes ≡ crc_from 0xFFFFFFFF bytes
unfolding crc32
register_is bytes = xor_cancel_left 0xFFFFFFFF (crc_from 0xFFFFFFFF bytes)

eight_bits : (c : ℕ) → bit_steps 8 c ≡ one_bit (one_bit (one_bit (one_bit (one_bit (one_bit (one_bit (one_bit c)))))))
unfolding bit_steps
eight_bits c = simp one_bit_lem

register_more : (bytes : List ℕ) (byte : ℕ)
    → register (bytes ++ (byte ∷ [])) ≡ one_bit (one_bit (one_bit (one_bit (one_bit (one_bit (one_bit (one_bit (bit_xor byte (register bytes)))))))))
unfolding crc_from
register_more bytes byte =
    register_is (bytes ++ (byte ∷ [])) ∙ crc_from_append 0xFFFFFFFF bytes (byte ∷ [])
    ∙ ap (λ c. bit_steps 8 (bit_xor byte c)) (sym (register_is bytes)) ∙ eight_bits (bit_xor byte (register bytes))

check_value_lem : crc32 (0x31 ∷ 0x32 ∷ 0x33 ∷ 0x34 ∷ 0x35 ∷ 0x36 ∷ 0x37 ∷ 0x38 ∷ 0x39 ∷ []) ≡ 0xCBF43926
unfolding crc32 crc_from bit_steps bit_step
check_value_lem = refl

register_starts : register [] ≡ 0xFFFFFFFF
unfolding crc32 crc_from
register_starts = refl

pub checks_bytes : ChecksBytes
checks_bytes = record { starts = register_starts; more = register_more; check_value = check_value_lem }
