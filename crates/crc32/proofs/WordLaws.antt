-- Bytes one after another, and four at a time: what a step by the tables comes to, and the register after all of them.
-- Assumes nothing.
use mathlib.Core.{Path.{◌≡◌, refl, sym, ap, ◌∙◌}, List.{List, [], ◌∷◌}}
use Prim.Native.Nat.{ℕ, zero, suc, ◌+◌, ◌*◌, ◌/◌, ◌%◌, ◌^◌, ◌≤◌, ◌<◌}
use native.Mathlib.Omega.{arith}
use lib.{Bits.bit_xor, ListN.{length, get_or, take, drop, length-drop, take-append-drop}}
use lib.Seq.{take-add, length-take-le}
use Rattle.std.specs.{List.{fold}, Simd.{first_chunks}}
use Rattle.numbers.specs.Numbers.{little_endian}
use Rattle.bits.specs.Bits.{Bytes}
use Rattle.bits.proofs.{BytesLaws.{bytes_take, bytes_drop}, XorLaws.xor_assoc}
use Rattle.crc32.specs.{Crc32.{bit_steps, crc_from}, Tables.crc_tables}
use Rattle.crc32.proofs.BitStepLaws.{crc_from_append, crc_from_word}
use Rattle.crc32.proofs.CrcTableLaws.{tables_word}

-- ---- the bytes of a word

-- the number that four bytes spell
pub word_spelt : (word : List ℕ) → length word ≡ 4
    → get_or word 0 0 + get_or word 1 0 * 256 + get_or word 2 0 * 65536 + get_or word 3 0 * 16777216 ≡ little_endian word
unfolding little_endian
word_spelt [] four = absurd (omega arith)
word_spelt (a ∷ []) four = absurd (omega arith)
word_spelt (a ∷ b ∷ []) four = absurd (omega arith)
word_spelt (a ∷ b ∷ c ∷ []) four = absurd (omega arith)
word_spelt (a ∷ b ∷ c ∷ d ∷ []) four = omega arith
word_spelt (a ∷ b ∷ c ∷ d ∷ e ∷ rest) four = absurd (omega arith)

-- one entry of each table stands for a byte of a number
pub word_looked_up : (m : ℕ) → m < 2 ^ 32
    → bit_xor
    (bit_xor
    (bit_xor (get_or crc_tables (768 + m % 256) 0) (get_or crc_tables (512 + m / 256 % 256) 0))
    (get_or crc_tables (256 + m / 65536 % 256) 0))
    (get_or crc_tables (m / 16777216 % 256) 0)
    ≡ bit_steps 32 m
word_looked_up m h =
    let third : m / 65536 % 256 ≡ m / 256 / 256 % 256 = omega arith in
    let fourth : m / 16777216 % 256 ≡ m / 256 / 256 / 256 = omega (arith, h) in
    rw (third, fourth) (simp xor_assoc (tables_word m h))

-- ---- one after another

-- the register after a byte, and after a word
abbrev pub byte_after : ℕ → ℕ → ℕ
byte_after crc byte = bit_steps 8 (bit_xor byte crc)

abbrev pub word_after : ℕ → List ℕ → ℕ
word_after crc word = bit_steps 32 (bit_xor (little_endian word) crc)

pub bytes_after : (crc : ℕ) (bytes : List ℕ) → fold byte_after crc bytes ≡ crc_from crc bytes
unfolding crc_from
bytes_after crc [] = refl
bytes_after crc (b ∷ bytes) = bytes_after (byte_after crc b) bytes

one_after : (crc : ℕ) (bytes : List ℕ) → 4 ≤ length bytes → Bytes bytes → word_after crc (take 4 bytes) ≡ crc_from crc (take 4 bytes)
one_after crc bytes most small =
    let bits : 32 ≡ length (take 4 bytes) * 8 = omega (arith, length-take-le 4 bytes most) in
    ap (λ (k : ℕ). bit_steps k (bit_xor (little_endian (take 4 bytes)) crc)) bits ∙ sym (crc_from_word (take 4 bytes) crc (bytes_take 4 bytes small))

pub words_after : (k crc : ℕ) (bytes : List ℕ) → k * 4 ≤ length bytes → Bytes bytes
    → fold word_after crc (first_chunks 4 k bytes) ≡ crc_from crc (take (k * 4) bytes)
unfolding crc_from
words_after zero crc bytes most small = refl
words_after (suc k) crc bytes most small =
    let first : 4 ≤ length bytes = omega arith in
    let rest : k * 4 ≤ length (drop 4 bytes) = omega (arith, length-drop 4 bytes) in
    let all : 4 + k * 4 ≡ suc k * 4 = omega arith in
    words_after k (word_after crc (take 4 bytes)) (drop 4 bytes) rest (bytes_drop 4 bytes small)
    ∙ ap (λ (c : ℕ). crc_from c (take (k * 4) (drop 4 bytes))) (one_after crc bytes first small)
    ∙ sym (crc_from_append crc (take 4 bytes) (take (k * 4) (drop 4 bytes)))
    ∙ ap (crc_from crc) (sym (take-add 4 (k * 4) bytes) ∙ ap (λ (n : ℕ). take n bytes) all)

-- the register goes on from the words to the bytes behind them
pub crc_from_parts : (bytes : List ℕ) (k crc : ℕ) → crc_from (crc_from crc (take k bytes)) (drop k bytes) ≡ crc_from crc bytes
crc_from_parts bytes k crc = sym (crc_from_append crc (take k bytes) (drop k bytes)) ∙ ap (crc_from crc) (take-append-drop k bytes)
