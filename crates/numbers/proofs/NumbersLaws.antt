-- Laws of the numbers that bytes spell: one byte more, the bound, and what 64 bits keep of them. Assumes nothing.
use mathlib.Core.{Path.{◌≡◌, refl}, List.{List, [], ◌∷◌, ◌++◌}}
use Prim.Native.Nat.{ℕ, suc, ◌+◌, ◌*◌, ◌%◌, ◌^◌, ◌≤◌, ◌<◌}
use native.Mathlib.Nat.{lt_of_lt_of_le, mul-le-mul_right, mul_assoc, one-mul, pow-succ', pow-le-pow_right, zero-lt-suc}
use native.Mathlib.Omega.{arith}
use lib.{ListN.{length, get_or}}
use Rattle.numbers.specs.Numbers.{big_endian_from, big_endian, little_endian, ReadAs}

-- ---- one byte more

pub big_endian_from_append : (a : ℕ) (xs ys : List ℕ) → big_endian_from a (xs ++ ys) ≡ big_endian_from (big_endian_from a xs) ys
unfolding big_endian_from
big_endian_from_append a [] ys = refl
big_endian_from_append a (x ∷ xs) ys = big_endian_from_append (a * 256 + x) xs ys

pub big_endian_snoc : (bs : List ℕ) (b : ℕ) → big_endian (bs ++ (b ∷ [])) ≡ big_endian bs * 256 + b
unfolding big_endian big_endian_from
big_endian_snoc bs b = big_endian_from_append 0 bs (b ∷ [])

-- ---- the bound: bytes spell a number of as many base-256 digits

pub big_endian_from_lt : (a : ℕ) (bs : List ℕ) → ((i : ℕ) → get_or bs i 0 < 256) → big_endian_from a bs < suc a * 256 ^ length bs
unfolding big_endian_from
big_endian_from_lt a [] bytes = omega arith
big_endian_from_lt a (b ∷ bs) bytes =
    let h : suc (a * 256 + b) ≤ suc a * 256 = omega (arith, bytes 0) in
    lt_of_lt_of_le
    (big_endian_from_lt (a * 256 + b) bs (λ i. bytes (suc i)))
    (rw (pow-succ', ← mul_assoc) (mul-le-mul_right (256 ^ length bs) h))

pub big_endian_lt : (bs : List ℕ) → ((i : ℕ) → get_or bs i 0 < 256) → big_endian bs < 256 ^ length bs
unfolding big_endian
big_endian_lt bs bytes = rw one-mul at (big_endian_from_lt 0 bs bytes)

pub little_endian_lt : (bs : List ℕ) → ((i : ℕ) → get_or bs i 0 < 256) → little_endian bs < 256 ^ length bs
unfolding little_endian
little_endian_lt [] bytes = omega arith
little_endian_lt (b ∷ bs) bytes =
    let h : little_endian bs < 256 ^ length bs = little_endian_lt bs (λ i. bytes (suc i)) in
    rw pow-succ' (omega (arith, bytes 0))

-- ---- what 64 bits keep: of at most eight bytes the number itself, since they spell less than 2^64

pub read_as : {n size r : ℕ} → r ≡ n % 2 ^ 64 → n < 256 ^ size → ReadAs n size r
read_as e l = record { modulo = e; whole = λ small. omega (arith, pow-le-pow_right {n = 256} (zero-lt-suc 255) small) }
