-- The tests of a header's bytes, of its magic and of its checksums reflect what the guarantees say of them.
-- Assumes nothing.
use Prim.Native.Nat.{ℕ}
use native.Mathlib.Omega.{arith}
use mathlib.Core.{Path.{◌≡◌, refl, sym}, Logic.{◌⊎◌, inl, inr, ⊎_elim}, Bool.{Bool, cond}, List.{List, [], ◌∷◌}}
use lib.{Dec.leb, ListN.length}
use Rattle.fields.specs.Bytes.{part}
use Rattle.byte_tests.specs.Tests.{same_bytes, all_zero}
use Rattle.numbers.specs.Numbers.{big_endian}
use Rattle.crc32.specs.Crc32.{crc32}
use Rattle.header_format.specs.Format.{vera_magic, true_magic, magic_number}
use Rattle.header.specs.Header.{magic_of, checksums_match, is_header}
use Rattle.header_claims.specs.{Header.{bytes_at, vera_letters, true_letters, IsHeader}, Numbers.AllZero}
use Rattle.header_claims.proofs.Reflects.{Reflects, holds, fails, reflects_map, reflects_and, reflects_eqb, reflects_nil, reflects_cons}

nil_is_not_cons : {b : ℕ} {bytes : List ℕ} → [] ≡ b ∷ bytes → ⊥
nil_is_not_cons e = let z : ◌≡◌ {A = ℕ} 0 1 = cc in omega arith

pub same_bytes_reflects : (xs ys : List ℕ) → Reflects (xs ≡ ys) (same_bytes xs ys)
unfolding same_bytes
same_bytes_reflects [] [] = holds refl
same_bytes_reflects [] (b ∷ ys) = fails nil_is_not_cons
same_bytes_reflects (a ∷ xs) [] = fails (λ e. nil_is_not_cons (sym e))
same_bytes_reflects (a ∷ xs) (b ∷ ys) =
    reflects_map (λ p. cc) (λ e. ((cc), (cc))) (reflects_and (reflects_eqb a b) (same_bytes_reflects xs ys))

pub all_zero_reflects : (bytes : List ℕ) → Reflects (AllZero bytes) (all_zero bytes)
unfolding all_zero AllZero
all_zero_reflects [] = reflects_nil (λ b. b ≡ 0)
all_zero_reflects (b ∷ bytes) = reflects_cons (λ b. b ≡ 0) b bytes (reflects_eqb b 0) (all_zero_reflects bytes)

-- what a magic's number says of its bytes
pub data MagicIs (bytes : List ℕ) : ℕ → Type 0 where
  spells_vera : bytes ≡ vera_letters → (bytes ≡ true_letters → ⊥) → MagicIs bytes 0
  spells_true : bytes ≡ true_letters → (bytes ≡ vera_letters → ⊥) → MagicIs bytes 1
  spells_neither : ((bytes ≡ vera_letters) ⊎ (bytes ≡ true_letters) → ⊥) → MagicIs bytes 2

vera_is_not_true : (bytes : List ℕ) → bytes ≡ vera_letters → bytes ≡ true_letters → ⊥
vera_is_not_true bytes v t = let z : ◌≡◌ {A = ℕ} 86 84 = cc in omega arith

pub magic_number_says : (bytes : List ℕ) → MagicIs bytes (magic_number bytes)
unfolding magic_number
magic_number_says bytes = go (same_bytes_reflects bytes vera_magic) (same_bytes_reflects bytes true_magic)
  where
    go : {a b : Bool} → Reflects (bytes ≡ vera_letters) a → Reflects (bytes ≡ true_letters) b → MagicIs bytes (cond a 0 (cond b 1 2))
    go (holds v) r = spells_vera v (vera_is_not_true bytes v)
    go (fails f) (holds t) = spells_true t f
    go (fails f) (fails g) = spells_neither (⊎_elim f g)

pub magic_of_says : (h : List ℕ) → MagicIs (bytes_at 64 4 h) (magic_of h)
unfolding magic_of
magic_of_says h = magic_number_says (bytes_at 64 4 h)

pub magic_reflects : {bytes : List ℕ} {magic : ℕ} → MagicIs bytes magic → Reflects ((bytes ≡ vera_letters) ⊎ (bytes ≡ true_letters)) (leb magic 1)
magic_reflects (spells_vera v g) = holds (inl v)
magic_reflects (spells_true t f) = holds (inr t)
magic_reflects (spells_neither f) = fails f

pub is_header_reflects : (h : List ℕ) → length h ≡ 512 → Reflects (IsHeader h) (is_header h)
unfolding is_header checksums_match
is_header_reflects h size =
    reflects_map (λ p. record { magic = p.0.1; keys = p.1.0; fields = p.1.1 }) (λ r. ((size, r.magic), (r.keys, r.fields)))
    (reflects_and (reflects_and (reflects_eqb (length h) 512) (magic_reflects (magic_of_says h)))
    (reflects_and (reflects_eqb (crc32 (part 256 256 h)) (big_endian (part 72 4 h))) (reflects_eqb (crc32 (part 64 188 h)) (big_endian (part 252 4 h)))))
