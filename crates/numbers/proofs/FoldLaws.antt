-- Bytes read one after another: the number that a fold over them comes to, from the first on or from the last. Assumes nothing.
use mathlib.Core.{Path.{◌≡◌, refl, ap, ◌∙◌}, List.{List, [], ◌∷◌, reverse}}
use Prim.Native.Nat.{ℕ, ◌+◌, ◌*◌, ◌%◌, ◌^◌}
use native.Mathlib.Omega.{arith}
use Rattle.std.specs.List.{fold}
use Rattle.std.proofs.lemmas.List.{reverse-append, Sums.fold-append}
use Rattle.numbers.specs.Numbers.{big_endian_from, big_endian, little_endian}

-- a number written on by a byte, in 64 bits
abbrev pub with_byte : ℕ → ℕ → ℕ
with_byte number byte = (number * 256 + byte) % 2 ^ 64

big_endian_from_fold : (a : ℕ) (bs : List ℕ) → fold with_byte (a % 2 ^ 64) bs ≡ big_endian_from a bs % 2 ^ 64
unfolding big_endian_from
big_endian_from_fold a [] = refl
big_endian_from_fold a (b ∷ bs) =
    let e : with_byte (a % 2 ^ 64) b ≡ (a * 256 + b) % 2 ^ 64 = omega arith in
    ap (λ (n : ℕ). fold with_byte n bs) e ∙ big_endian_from_fold (a * 256 + b) bs

pub big_endian_fold : (bs : List ℕ) → fold with_byte 0 bs ≡ big_endian bs % 2 ^ 64
unfolding big_endian
big_endian_fold = big_endian_from_fold 0

pub little_endian_fold : (bs : List ℕ) → fold with_byte 0 (reverse bs) ≡ little_endian bs % 2 ^ 64
unfolding little_endian
little_endian_fold [] = refl
little_endian_fold (b ∷ bs) =
    let rest = little_endian_fold bs in
    ap (fold with_byte 0) (reverse-append (b ∷ []) bs) ∙ fold-append with_byte 0 (reverse bs) (b ∷ []) ∙ omega (arith, rest)
