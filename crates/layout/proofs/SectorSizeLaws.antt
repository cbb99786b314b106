-- What is shown once for every sector size Z that keeps its rule, by the four of them.
-- Assumes nothing.
use Rattle.std.proofs.Common.{ℕ, ◌-◌, ◌*◌, ◌/◌, ◌%◌, ◌^◌, ◌≤◌, eqb-true}
use native.Mathlib.{Nat.{mod-eq-zero_of_dvd, dvd_of_mod-eq-zero, dvd_refl, mul-dvd-mul, dvd_of_mul-dvd-mul_right}, Omega.arith}
use mathlib.Core.{Path.{◌≡◌, refl, sym, ap, subst, ◌∙◌}, Bool.{Bool, true, false, true≢false, ◌&&◌, ◌||◌}}
use borrow.Author.Tests.{eqb-false}
use lib.{Bits.{bit_and, bit_or, and_mask, or_mod, or_add_and, and_le_l, and_le_r}, Dec.eqb}
use Rattle.layout.specs.Rules.{sector_bytes, multiple, sector_size_rule}
use Rattle.layout.proofs.TestLaws.{eqb_iff}

-- what holds of each of the four holds of every Z
pub sector_size_by : (P : ℕ → Type 0) → P 512 → P 1024 → P 2048 → P 4096 → (size : ℕ) → sector_size_rule size ≡ true → P size
unfolding sector_size_rule
sector_size_by P one two four eight size kept = go (eqb size 512) (eqb size 1024) (eqb size 2048) (eqb size 4096) refl refl refl refl kept
  where
    go : (a b c d : Bool) → eqb size 512 ≡ a → eqb size 1024 ≡ b → eqb size 2048 ≡ c → eqb size 4096 ≡ d → (a || (b || (c || d))) ≡ true → P size
    go true b c d e f g h k = subst P (sym (eqb-true size 512 e)) one
    go false true c d e f g h k = subst P (sym (eqb-true size 1024 f)) two
    go false false true d e f g h k = subst P (sym (eqb-true size 2048 g)) four
    go false false false true e f g h k = subst P (sym (eqb-true size 4096 h)) eight
    go false false false false e f g h k = absurd (true≢false (sym k))

pub sector_size_most : (size : ℕ) → sector_size_rule size ≡ true → size ≤ 4096
sector_size_most = sector_size_by (λ size. size ≤ 4096) (omega arith) (omega arith) (omega arith) (omega arith)

-- a multiple of Z is a multiple of 512
pub multiple_of_sector : (number size : ℕ) → sector_size_rule size ≡ true → multiple number size ≡ true → number % sector_bytes ≡ 0
unfolding multiple
multiple_of_sector number size kept whole =
    sector_size_by (λ size. number % size ≡ 0 → number % sector_bytes ≡ 0) (λ e. e) (λ e. omega arith) (λ e. omega arith) (λ e. omega arith) size kept
    (eqb-true (number % size) 0 whole)

-- a count of sectors is a multiple of a unit exactly where its bytes are one of the unit's
multiple_scaled : (number unit : ℕ) → eqb (number % unit) 0 ≡ eqb (number * sector_bytes % (unit * sector_bytes)) 0
multiple_scaled number unit =
    eqb_iff (number % unit) 0 (number * sector_bytes % (unit * sector_bytes)) 0
    (λ e. mod-eq-zero_of_dvd (unit * sector_bytes) (mul-dvd-mul unit sector_bytes (dvd_of_mod-eq-zero unit e) (dvd_refl sector_bytes)))
    (λ e. mod-eq-zero_of_dvd unit (dvd_of_mul-dvd-mul_right {k = sector_bytes} unit (omega arith) (dvd_of_mod-eq-zero (unit * sector_bytes) e)))

-- so it is one of Z/512 exactly where they are one of Z
pub multiple_in_sectors : (number size : ℕ) → sector_size_rule size ≡ true → multiple number (size / sector_bytes) ≡ multiple (number * sector_bytes) size
unfolding multiple
multiple_in_sectors number size kept =
    sector_size_by (λ size. eqb (number % (size / sector_bytes)) 0 ≡ eqb (number * sector_bytes % size) 0) (multiple_scaled number 1)
    (multiple_scaled number 2) (multiple_scaled number 4) (multiple_scaled number 8) size kept

-- two numbers have no bit exactly where neither has one
or-none : (x y : ℕ) → eqb (bit_or x y) 0 ≡ (eqb x 0 && eqb y 0)
or-none x y = go (eqb (bit_or x y) 0) (eqb x 0) (eqb y 0) refl refl refl
  where
    neither : bit_or x y ≡ 0 → (x ≡ 0) × (y ≡ 0)
    neither e = (omega (arith, or_add_and x y, and_le_r x y), omega (arith, or_add_and x y, and_le_l x y))

    go : (p q r : Bool) → eqb (bit_or x y) 0 ≡ p → eqb x 0 ≡ q → eqb y 0 ≡ r → p ≡ (q && r)
    go true true true e f g = refl
    go true true false e f g = absurd (eqb-false y 0 g (neither (eqb-true (bit_or x y) 0 e)).1)
    go true false r e f g = absurd (eqb-false x 0 f (neither (eqb-true (bit_or x y) 0 e)).0)
    go false true true e f g = absurd (eqb-false (bit_or x y) 0 e (omega (arith, or_add_and x y, eqb-true x 0 f, eqb-true y 0 g)))
    go false true false e f g = refl
    go false false r e f g = refl

-- the bits of a number below a power of two are none exactly where it is a multiple of that, and of two numbers where both are
masked : (number k : ℕ) → eqb (bit_and number (2 ^ k - 1)) 0 ≡ eqb (number % 2 ^ k) 0
masked number k = ap (λ (rest : ℕ). eqb rest 0) (and_mask number k)

both_masked : (a b k : ℕ) → eqb (bit_or a b % 2 ^ k) 0 ≡ (eqb (a % 2 ^ k) 0 && eqb (b % 2 ^ k) 0)
both_masked a b k = ap (λ (rest : ℕ). eqb rest 0) (or_mod a b k) ∙ or-none (a % 2 ^ k) (b % 2 ^ k)

-- .. so it is with Z, and with Z/512
module _ (size : ℕ) (kept : sector_size_rule size ≡ true) where
  pub below_none : (number : ℕ) → eqb (bit_and number (size - 1)) 0 ≡ multiple number size
  unfolding multiple
  below_none number =
      sector_size_by (λ size. eqb (bit_and number (size - 1)) 0 ≡ eqb (number % size) 0) (masked number 9) (masked number 10) (masked number 11)
      (masked number 12) size kept

  pub both_multiple : (a b : ℕ) → multiple (bit_or a b) size ≡ (multiple a size && multiple b size)
  unfolding multiple
  both_multiple a b =
      sector_size_by (λ size. eqb (bit_or a b % size) 0 ≡ (eqb (a % size) 0 && eqb (b % size) 0)) (both_masked a b 9) (both_masked a b 10)
      (both_masked a b 11) (both_masked a b 12) size kept

  pub both_below_in_sectors : (a b : ℕ)
      → eqb (bit_and (bit_or a b) (size / sector_bytes - 1)) 0 ≡ (multiple a (size / sector_bytes) && multiple b (size / sector_bytes))
  unfolding multiple
  both_below_in_sectors a b =
      let both : (k : ℕ) → eqb (bit_and (bit_or a b) (2 ^ k - 1)) 0 ≡ (eqb (a % 2 ^ k) 0 && eqb (b % 2 ^ k) 0) =
      λ k. masked (bit_or a b) k ∙ both_masked a b k in
      sector_size_by
      (λ size. eqb (bit_and (bit_or a b) (size / sector_bytes - 1)) 0 ≡ (eqb (a % (size / sector_bytes)) 0 && eqb (b % (size / sector_bytes)) 0))
      (both 0) (both 1) (both 2) (both 3) size kept

  pub sector_size_least : 512 ≤ size
  sector_size_least = sector_size_by (λ size. 512 ≤ size) (omega arith) (omega arith) (omega arith) (omega arith) size kept
