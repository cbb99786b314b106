-- The register's steps: they are linear in exclusive-or, and several bytes are as many steps of one number.
-- Assumes nothing.
use mathlib.Core.{Path.{◌≡◌, refl, sym, ap, ◌∙◌}, List.{List, [], ◌∷◌, ◌++◌}}
use Prim.Native.Nat.{ℕ, zero, suc, ◌+◌, ◌*◌, ◌/◌, ◌%◌, ◌^◌, ◌<◌}
use native.Mathlib.Nat.{mod-lt, zero-mul, zero-add, suc-add, mul-one}
use native.Mathlib.Omega.{arith}
use lib.{Bits.{bit_xor, differ, xor_comm, xor_self, xor_zero_r, xor_shifted, shifted_half, shifted_even}, ListN.length}
use lib.Pow.{split, pow_pos}
use Rattle.numbers.specs.Numbers.{little_endian}
use Rattle.crc32.specs.Crc32.{bit_step, bit_steps, crc_from}
use Rattle.bits.specs.Bits.{Bytes}
use Rattle.bits.proofs.XorLaws.{digit_lt, xor_half, xor_odd, xor_exchange, xor_assoc}

-- ---- the steps are linear

-- a product by a digit
digit_mul : (p x y : ℕ) → x < 2 → y < 2 → differ x y * p ≡ bit_xor (x * p) (y * p)
digit_mul p zero y hx hy = ap (λ (z : ℕ). bit_xor z (y * p)) (sym (zero-mul p))
digit_mul p (suc x) zero hx hy = sym (ap (bit_xor (suc x * p)) (zero-mul p) ∙ xor_zero_r (suc x * p))
digit_mul p (suc zero) (suc zero) hx hy = zero-mul p ∙ sym (xor_self (1 * p))
digit_mul p (suc zero) (suc (suc y)) hx hy = absurd (omega arith)
digit_mul p (suc (suc x)) (suc y) hx hy = absurd (omega arith)

-- one step, by any polynomial p
step_xor : (p a b : ℕ)
    → bit_xor (bit_xor a b % 2 * p) (bit_xor a b / 2) ≡ bit_xor (bit_xor (a % 2 * p) (a / 2)) (bit_xor (b % 2 * p) (b / 2))
step_xor p a b =
    rw (xor_odd a b, xor_half a b, digit_mul p (a % 2) (b % 2) (digit_lt a) (digit_lt b))
    (xor_exchange (a % 2 * p) (b % 2 * p) (a / 2) (b / 2))

pub bit_step_xor : (a b : ℕ) → bit_step (bit_xor a b) ≡ bit_xor (bit_step a) (bit_step b)
unfolding bit_step
bit_step_xor = step_xor 0xEDB88320

pub bit_steps_xor : (k a b : ℕ) → bit_steps k (bit_xor a b) ≡ bit_xor (bit_steps k a) (bit_steps k b)
unfolding bit_steps
bit_steps_xor zero a b = refl
bit_steps_xor (suc k) a b = ap (bit_steps k) (bit_step_xor a b) ∙ bit_steps_xor k (bit_step a) (bit_step b)

-- ---- k steps: the k low digits by the polynomial, and the others moved down

bit_step_shifted : (a k : ℕ) → bit_step (a * 2 ^ suc k) ≡ a * 2 ^ k
unfolding bit_step
bit_step_shifted a k = rw (shifted_even, shifted_half)

pub bit_steps_shifted : (k a : ℕ) → bit_steps k (a * 2 ^ k) ≡ a
unfolding bit_steps
bit_steps_shifted zero a = mul-one a
bit_steps_shifted (suc k) a = ap (bit_steps k) (bit_step_shifted a k) ∙ bit_steps_shifted k a

pub bit_steps_split : (k x : ℕ) → bit_steps k x ≡ bit_xor (bit_steps k (x % 2 ^ k)) (x / 2 ^ k)
bit_steps_split k x =
    ap (bit_steps k) (sym (xor_shifted (x / 2 ^ k) k (x % 2 ^ k) (mod-lt x (pow_pos k)) ∙ split x k))
    ∙ bit_steps_xor k (x / 2 ^ k * 2 ^ k) (x % 2 ^ k)
    ∙ ap (λ (y : ℕ). bit_xor y (bit_steps k (x % 2 ^ k))) (bit_steps_shifted k (x / 2 ^ k))
    ∙ xor_comm (x / 2 ^ k) (bit_steps k (x % 2 ^ k))

-- ---- steps one behind the other

pub bit_steps_add : (j k c : ℕ) → bit_steps (j + k) c ≡ bit_steps k (bit_steps j c)
unfolding bit_steps
bit_steps_add zero k c = ap (λ (n : ℕ). bit_steps n c) (zero-add k)
bit_steps_add (suc j) k c = ap (λ (n : ℕ). bit_steps n c) (suc-add j k) ∙ bit_steps_add j k (bit_step c)

-- the lowest byte goes by itself, and the others need eight steps fewer
pub bit_steps_byte : (k x : ℕ) → bit_steps (8 + k) x ≡ bit_xor (bit_steps (8 + k) (x % 256)) (bit_steps k (x / 256))
bit_steps_byte k x =
    bit_steps_add 8 k x
    ∙ ap (bit_steps k) (bit_steps_split 8 x)
    ∙ bit_steps_xor k (bit_steps 8 (x % 256)) (x / 256)
    ∙ ap (λ (y : ℕ). bit_xor y (bit_steps k (x / 256))) (sym (bit_steps_add 8 k (x % 256)))

-- ---- several bytes

pub crc_from_append : (c : ℕ) (xs ys : List ℕ) → crc_from c (xs ++ ys) ≡ crc_from (crc_from c xs) ys
unfolding crc_from
crc_from_append c [] ys = refl
crc_from_append c (x ∷ xs) ys = crc_from_append (bit_steps 8 (bit_xor x c)) xs ys

-- a byte added to a register that eight steps are taken of, before further bytes are
byte_word : (b w c : ℕ) → b < 256 → bit_xor w (bit_steps 8 (bit_xor b c)) ≡ bit_steps 8 (bit_xor (b + 256 * w) c)
byte_word b w c h =
    let spelt : w * 256 + b ≡ b + 256 * w = omega arith in
    ap (λ (x : ℕ). bit_xor x (bit_steps 8 (bit_xor b c))) (sym (bit_steps_shifted 8 w))
    ∙ sym (bit_steps_xor 8 (w * 256) (bit_xor b c))
    ∙ ap (bit_steps 8) (sym (xor_assoc (w * 256) b c) ∙ ap (λ (x : ℕ). bit_xor x c) (xor_shifted w 8 b h ∙ spelt))

-- bytes are as many steps as they have bits, of the number that they spell added to the register
pub crc_from_word : (bs : List ℕ) (c : ℕ) → Bytes bs → crc_from c bs ≡ bit_steps (length bs * 8) (bit_xor (little_endian bs) c)
unfolding crc_from little_endian bit_steps
crc_from_word [] c h = refl
crc_from_word (b ∷ bs) c h =
    let more : 8 + length bs * 8 ≡ suc (length bs) * 8 = omega arith in
    crc_from_word bs (bit_steps 8 (bit_xor b c)) h.1
    ∙ ap (bit_steps (length bs * 8)) (byte_word b (little_endian bs) c h.0)
    ∙ sym (bit_steps_add 8 (length bs * 8) (bit_xor (b + 256 * little_endian bs) c))
    ∙ ap (λ (k : ℕ). bit_steps k (bit_xor (b + 256 * little_endian bs) c)) more
