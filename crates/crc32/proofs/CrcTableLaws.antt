-- The tables hold what they are named for, and one entry of each stands for a byte of a word.
-- Assumes nothing.
use mathlib.Core.{Path.{◌≡◌, sym, ap, ap₂, ◌∙◌}, List.{List, ◌++◌, map}}
use Prim.Native.Nat.{ℕ, zero, suc, ◌+◌, ◌*◌, ◌/◌, ◌%◌, ◌^◌, ◌<◌}
use native.Mathlib.Nat.{mod-lt, zero-add}
use native.Mathlib.Omega.{arith}
use lib.{Bits.bit_xor, ListN.{length, length-map, get_or, get_or-map, get_or-append}, Pow.pow_pos, Seq.get_or-append-add}
use Rattle.bits.specs.Bits.{entries}
use Rattle.bits.proofs.EntriesLaws.{length-entries, entries_at}
use Rattle.crc32.specs.{Crc32.{bit_step, bit_steps}, Tables.{tables_from, crc_tables}}
use Rattle.crc32.proofs.BitStepLaws.{bit_steps_add, bit_steps_split, bit_steps_byte}

next_at : (t : List ℕ) (i : ℕ) → get_or (map (bit_steps 8) t) i 0 ≡ bit_steps 8 (get_or t i 0)
unfolding bit_steps bit_step
next_at t i = get_or-map (bit_steps 8) t i 0

tables_from_at : (n k : ℕ) (t : List ℕ) (i : ℕ) → length t ≡ 256 → k < n → i < 256
    → get_or (tables_from n t) (k * 256 + i) 0 ≡ bit_steps (k * 8) (get_or t i 0)
unfolding tables_from bit_steps
tables_from_at zero k t i size h small = absurd (omega (arith, h))
tables_from_at (suc n) zero t i size h small =
    let here : 0 * 256 + i ≡ i = omega arith in
    ap (λ (j : ℕ). get_or (t ++ tables_from n (map (bit_steps 8) t)) j 0) here
    ∙ get_or-append t (tables_from n (map (bit_steps 8) t)) 0 i (omega (arith, small, size))
tables_from_at (suc n) (suc k) t i size h small =
    let behind : suc k * 256 + i ≡ length t + (k * 256 + i) = omega (arith, size) in
    let more : 8 + k * 8 ≡ suc k * 8 = omega arith in
    ap (λ (j : ℕ). get_or (t ++ tables_from n (map (bit_steps 8) t)) j 0) behind
    ∙ get_or-append-add t (tables_from n (map (bit_steps 8) t)) (k * 256 + i) 0
    ∙ tables_from_at n k (map (bit_steps 8) t) i (length-map t (bit_steps 8) ∙ size) (omega (arith, h)) small
    ∙ ap (bit_steps (k * 8)) (next_at t i)
    ∙ sym (bit_steps_add 8 (k * 8) (get_or t i 0))
    ∙ ap (λ (n : ℕ). bit_steps n (get_or t i 0)) more

-- entry i of table k
pub table_at : (k i : ℕ) → k < 4 → i < 256 → get_or crc_tables (k * 256 + i) 0 ≡ bit_steps (8 + k * 8) i
unfolding crc_tables
table_at k i few small =
    tables_from_at 4 k (entries (bit_steps 8) 256 0) i (length-entries (bit_steps 8) 256 0) few small
    ∙ ap (bit_steps (k * 8)) (entries_at (bit_steps 8) 0 256 0 i small ∙ ap (bit_steps 8) (zero-add i))
    ∙ sym (bit_steps_add 8 (k * 8) i)

-- entry i of the first table
first_at : (i : ℕ) → i < 256 → get_or crc_tables i 0 ≡ bit_steps 8 i
first_at i small =
    let here : i ≡ 0 * 256 + i = omega arith in
    ap (λ (j : ℕ). get_or crc_tables j 0) here ∙ table_at 0 i (omega arith) small

-- an entry of the first table and a shift are eight steps
pub table_byte : (x : ℕ) → bit_xor (get_or crc_tables (x % 256) 0) (x / 256) ≡ bit_steps 8 x
table_byte x =
    ap (λ (y : ℕ). bit_xor y (x / 256)) (first_at (x % 256) (mod-lt x (pow_pos 8))) ∙ sym (bit_steps_split 8 x)

-- one entry of each table stands for a byte of a word
pub tables_word : (m : ℕ) → m < 2 ^ 32
    → bit_xor (get_or crc_tables (768 + m % 256) 0)
    (bit_xor (get_or crc_tables (512 + m / 256 % 256) 0)
    (bit_xor (get_or crc_tables (256 + m / 256 / 256 % 256) 0) (get_or crc_tables (m / 256 / 256 / 256) 0)))
    ≡ bit_steps 32 m
tables_word m h =
    sym
    (bit_steps_byte 24 m
    ∙ ap₂ bit_xor (sym (table_at 3 (m % 256) (omega arith) (mod-lt m (pow_pos 8))))
    (bit_steps_byte 16 (m / 256)
    ∙ ap₂ bit_xor (sym (table_at 2 (m / 256 % 256) (omega arith) (mod-lt (m / 256) (pow_pos 8))))
    (bit_steps_byte 8 (m / 256 / 256)
    ∙ ap₂ bit_xor (sym (table_at 1 (m / 256 / 256 % 256) (omega arith) (mod-lt (m / 256 / 256) (pow_pos 8))))
    (sym (first_at (m / 256 / 256 / 256) (omega (arith, h)))))))
