-- The field's products: made of doublings, sums kept, and bytes kept. Assumes nothing.
use Prim.Native.Nat.{ℕ, zero, suc, ◌*◌, ◌/◌, ◌%◌, ◌<◌}
use native.Mathlib.Nat.{add-zero, mod-lt, zero-lt-suc}
use native.Mathlib.Omega.{arith}
use mathlib.Core.Path.{◌≡◌, refl, sym, ap, ap₂, ◌∙◌}
use lib.Bits.{bit_xor, xor_shr, xor_mod, xor_block, xor_lt, xor_zero_r}
use lib.Dec.{lit<, ltb, ltb→lt}
use Rattle.bits.proofs.XorLaws.{xor_exchange}
use Rattle.bits.proofs.TestLaws.{same_below, true_below}
use Rattle.aes_tables.specs.Field.{times_x, where_set, product_of, product}

-- ---- doublings

-- a doubling as the code makes it
pub doubled : (a : ℕ) → a < 256 → bit_xor (a * 2 % 256) (a / 128 * 27) ≡ times_x a
unfolding times_x
doubled = same_below (λ a. bit_xor (a * 2 % 256) (a / 128 * 27)) times_x 256 tt

pub product_1 : (a : ℕ) → product 1 a ≡ a
unfolding product product_of where_set
product_1 a = xor_zero_r a

pub product_2 : (a : ℕ) → product 2 a ≡ times_x a
unfolding product product_of where_set
product_2 a = xor_zero_r (times_x a)

pub where_unset : (bit a : ℕ) → bit ≡ 0 → 0 ≡ where_set bit a
unfolding where_set
where_unset bit a e = ap (λ (b : ℕ). where_set b a) (sym e)

pub where_set_one : (bit a : ℕ) → (bit ≡ 0 → ⊥) → a ≡ where_set bit a
unfolding where_set
where_set_one zero a other = absurd (other refl)
where_set_one (suc bit) a other = refl

-- a factor of four bits
product_of_zero : (n a : ℕ) → product_of n 0 a ≡ 0
unfolding product_of where_set
product_of_zero zero a = refl
product_of_zero (suc n) a = ap (bit_xor 0) (product_of_zero n (times_x a))

pub product_of_bits : (factor a : ℕ) → factor < 16
    → bit_xor (where_set (factor % 2) a)
    (bit_xor (where_set (factor / 2 % 2) (times_x a))
    (bit_xor (where_set (factor / 4 % 2) (times_x (times_x a))) (where_set (factor / 8 % 2) (times_x (times_x (times_x a))))))
    ≡ product factor a
unfolding product product_of
product_of_bits factor a small =
    let a2 = times_x a in
    let a4 = times_x a2 in
    let a8 = times_x a4 in
    let fourth : factor / 4 ≡ factor / 2 / 2 = omega arith in
    let eighth : factor / 8 ≡ factor / 2 / 2 / 2 = omega arith in
    let none : 0 ≡ factor / 2 / 2 / 2 / 2 = omega arith in
    let last = sym (xor_zero_r (where_set (factor / 8 % 2) a8)) ∙ ap (bit_xor (where_set (factor / 8 % 2) a8)) (sym (product_of_zero 4 (times_x a8))) in
    ap (λ (rest : ℕ). bit_xor (where_set (factor % 2) a) (bit_xor (where_set (factor / 2 % 2) a2) (bit_xor (where_set (factor / 4 % 2) a4) rest))) last
    ∙ (λ i. bit_xor (where_set (factor % 2) a) (bit_xor (where_set (factor / 2 % 2) a2)
    (bit_xor (where_set (fourth i % 2) a4) (bit_xor (where_set (eighth i % 2) a8) (product_of 4 (none i) (times_x a8))))))

-- ---- sums

double_sum : (a b : ℕ) → bit_xor a b * 2 ≡ bit_xor (a * 2) (b * 2)
double_sum a b =
    sym (add-zero (bit_xor a b * 2)) ∙ sym (xor_block 1 a b 0 0 (lit< tt) (lit< tt))
    ∙ ap₂ bit_xor (add-zero (a * 2)) (add-zero (b * 2))

top_sum : (a b : ℕ) → bit_xor a b / 128 % 2 ≡ bit_xor (a / 128 % 2) (b / 128 % 2)
top_sum a b = ap (λ (x : ℕ). x % 2) (xor_shr a b 7) ∙ xor_mod (a / 128) (b / 128) 1

taken_sum : (x y : ℕ) → x < 2 → y < 2 → bit_xor x y * 283 ≡ bit_xor (x * 283) (y * 283)
taken_sum zero y hx hy = refl
taken_sum (suc zero) zero hx hy = refl
taken_sum (suc zero) (suc zero) hx hy = refl
taken_sum (suc zero) (suc (suc y)) hx hy = absurd (omega arith)
taken_sum (suc (suc x)) y hx hy = absurd (omega arith)

digit : (x : ℕ) → x % 2 < 2
digit x = mod-lt x (zero-lt-suc 1)

times_x_sum : (a b : ℕ) → times_x (bit_xor a b) ≡ bit_xor (times_x a) (times_x b)
unfolding times_x
times_x_sum a b =
    ap₂ bit_xor (double_sum a b)
    (ap (λ (x : ℕ). x * 283) (top_sum a b) ∙ taken_sum (a / 128 % 2) (b / 128 % 2) (digit (a / 128)) (digit (b / 128)))
    ∙ xor_exchange (a * 2) (b * 2) (a / 128 % 2 * 283) (b / 128 % 2 * 283)

where_set_sum : (bit a b : ℕ) → where_set bit (bit_xor a b) ≡ bit_xor (where_set bit a) (where_set bit b)
unfolding where_set
where_set_sum zero a b = refl
where_set_sum (suc bit) a b = refl

product_of_sum : (n factor a b : ℕ) → product_of n factor (bit_xor a b) ≡ bit_xor (product_of n factor a) (product_of n factor b)
unfolding product_of
product_of_sum zero factor a b = refl
product_of_sum (suc n) factor a b =
    ap₂ bit_xor (where_set_sum (factor % 2) a b)
    (ap (product_of n (factor / 2)) (times_x_sum a b) ∙ product_of_sum n (factor / 2) (times_x a) (times_x b))
    ∙ xor_exchange (where_set (factor % 2) a) (where_set (factor % 2) b) (product_of n (factor / 2) (times_x a)) (product_of n (factor / 2) (times_x b))

pub product_sum : (factor a b : ℕ) → product factor (bit_xor a b) ≡ bit_xor (product factor a) (product factor b)
unfolding product
product_sum = product_of_sum 8

-- ---- bytes

times_x_byte : (a : ℕ) → a < 256 → times_x a < 256
unfolding times_x
times_x_byte a h = ltb→lt (times_x a) 256 (true_below (λ x. ltb (times_x x) 256) 256 tt a h)

where_set_byte : (bit a : ℕ) → a < 256 → where_set bit a < 256
unfolding where_set
where_set_byte zero a h = lit< tt
where_set_byte (suc bit) a h = h

product_of_byte : (n factor a : ℕ) → a < 256 → product_of n factor a < 256
unfolding product_of
product_of_byte zero factor a h = lit< tt
product_of_byte (suc n) factor a h =
    xor_lt 8 (where_set (factor % 2) a) (product_of n (factor / 2) (times_x a)) (where_set_byte (factor % 2) a h)
    (product_of_byte n (factor / 2) (times_x a) (times_x_byte a h))

pub product_byte : (factor a : ℕ) → a < 256 → product factor a < 256
unfolding product
product_byte = product_of_byte 8
