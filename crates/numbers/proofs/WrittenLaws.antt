-- Laws of a number written in bytes, in either order: its bytes one by one, what they spell, and zeros past its end. Assumes nothing.
use mathlib.Core.{Path.{◌≡◌, refl, ap, sym, ◌∙◌}, List.{List, [], ◌∷◌, ◌++◌, append-nil}}
use Prim.Native.Nat.{ℕ, zero, suc, zero-le, ◌+◌, ◌-◌, ◌*◌, ◌/◌, ◌%◌, ◌^◌, ◌≤◌, ◌<◌}
use native.Mathlib.Nat.{mod-lt, zero-lt-suc, mod-one, pow-suc, pow-succ', pow-le-pow_right, zero-add, add-zero, suc-add}
use native.Mathlib.Nat.{div-div-eq-div-mul, div-one, div-eq_of_lt}
use native.Mathlib.Numerals.{add-one}
use native.Mathlib.Omega.{arith}
use lib.{Arith.mod-mul, ListN.{length, get_or, take, drop, set, replicate, length-append}}
use lib.Seq.{take-suc-set, append_snoc, take_all, drop-cons, drop-set-lt, get_or-set_same, lt-length-set}
use Rattle.numbers.specs.Numbers.{big_endian, big_endian_from, big_endian_bytes, little_endian, little_endian_bytes}
use Rattle.numbers.proofs.NumbersLaws.{big_endian_snoc}

pub little_endian_bytes_length : (size number : ℕ) → length (little_endian_bytes size number) ≡ size
unfolding little_endian_bytes
little_endian_bytes_length zero number = refl
little_endian_bytes_length (suc size) number = ap suc (little_endian_bytes_length size (number / 256))

pub little_endian_bytes_lt : (size number i : ℕ) → get_or (little_endian_bytes size number) i 0 < 256
unfolding little_endian_bytes
little_endian_bytes_lt zero number i = zero-lt-suc 255
little_endian_bytes_lt (suc size) number zero = mod-lt number (zero-lt-suc 255)
little_endian_bytes_lt (suc size) number (suc i) = little_endian_bytes_lt size (number / 256) i

-- ---- one byte more, as a loop writes it

-- the first byte of what is left after i of n bytes
little_endian_bytes_left : (n i number : ℕ) → i < n → little_endian_bytes (n - i) number ≡ number % 256 ∷ little_endian_bytes (n - (i + 1)) (number / 256)
unfolding little_endian_bytes
little_endian_bytes_left n i number h =
    let e : n - i ≡ suc (n - (i + 1)) = omega arith in
    rw e

-- what is written and what is left to write, before and after a byte
pub written_suc : (bytes : List ℕ) (n i number : ℕ) → i < n → length bytes ≡ n
    → take i bytes ++ little_endian_bytes (n - i) number ≡ take (i + 1) (set bytes i (number % 256)) ++ little_endian_bytes (n - (i + 1)) (number / 256)
written_suc bytes n i number h e =
    let k : i < length bytes = omega arith in
    rw (little_endian_bytes_left n i number h, add-one, take-suc-set bytes i (number % 256) k, append_snoc)

pub written_end : (bytes : List ℕ) (n i number : ℕ) → n ≤ i → length bytes ≡ n → take i bytes ++ little_endian_bytes (n - i) number ≡ bytes
unfolding little_endian_bytes
written_end bytes n i number h e =
    let z : n - i ≡ 0 = omega arith in
    let k : length bytes ≤ i = omega arith in
    rw (z, take_all i bytes k, append-nil)

-- ---- what the bytes spell

pow_pos_256 : (size : ℕ) → 0 < 256 ^ size
pow_pos_256 size = pow-le-pow_right {n = 256} (zero-lt-suc 255) (zero-le {n = size})

pub little_endian_bytes_spell : (size number : ℕ) → little_endian (little_endian_bytes size number) ≡ number % 256 ^ size
unfolding little_endian little_endian_bytes
little_endian_bytes_spell zero number = sym (mod-one number)
little_endian_bytes_spell (suc size) number =
    rw (little_endian_bytes_spell size (number / 256), pow-suc, mod-mul number (pow_pos_256 size) (zero-lt-suc 255)) (omega arith)

-- ---- big-endian: the same from behind

pub big_endian_bytes_length : (size number : ℕ) → length (big_endian_bytes size number) ≡ size
unfolding big_endian_bytes
big_endian_bytes_length zero number = refl
big_endian_bytes_length (suc size) number =
    rw (length-append (big_endian_bytes size (number / 256)) (number % 256 ∷ []), big_endian_bytes_length size (number / 256), add-one)

-- what is left to write and what is written, before and after a byte
pub written_back : (bytes : List ℕ) (left number : ℕ) → 0 < left → left ≤ length bytes
    → big_endian_bytes left number ++ drop left bytes ≡ big_endian_bytes (left - 1) (number / 256) ++ drop (left - 1) (set bytes (left - 1) (number % 256))
unfolding big_endian_bytes
written_back bytes zero number h k = absurd (omega arith)
written_back bytes (suc left) number h k =
    let e : suc left - 1 ≡ left = omega arith in
    let inside : left < length (set bytes left (number % 256)) = lt-length-set bytes left (number % 256) k in
    rw (e, drop-cons (set bytes left (number % 256)) left 0 inside, get_or-set_same bytes left (number % 256) 0 k)
    (rw (drop-set-lt (suc left) bytes left (number % 256) (omega arith))
    (append_snoc (big_endian_bytes left (number / 256)) (number % 256) (drop (suc left) bytes)))

pub written_front : (bytes : List ℕ) (left number : ℕ) → left ≤ 0 → big_endian_bytes left number ++ drop left bytes ≡ bytes
unfolding big_endian_bytes
written_front bytes zero number h = refl
written_front bytes (suc left) number h = absurd (omega arith)

pub big_endian_bytes_spell : (size number : ℕ) → big_endian (big_endian_bytes size number) ≡ number % 256 ^ size
unfolding big_endian big_endian_from big_endian_bytes
big_endian_bytes_spell zero number = sym (mod-one number)
big_endian_bytes_spell (suc size) number =
    let rest = big_endian_bytes_spell size (number / 256) in
    big_endian_snoc (big_endian_bytes size (number / 256)) (number % 256) ∙ rw (rest, pow-suc, mod-mul number (pow_pos_256 size) (zero-lt-suc 255)) (omega arith)

-- what bytes spell, behind so many bytes of another number, and written again
big_endian_bytes_behind : (size a : ℕ) (bs : List ℕ) → ((i : ℕ) → get_or bs i 0 < 256)
    → big_endian_bytes (size + length bs) (big_endian_from a bs) ≡ big_endian_bytes size a ++ bs
unfolding big_endian_from big_endian_bytes
big_endian_bytes_behind size a [] bytes = rw (add-zero, append-nil)
big_endian_bytes_behind size a (b ∷ bs) bytes =
    let d : (a * 256 + b) / 256 ≡ a = omega (arith, bytes 0) in
    let m : (a * 256 + b) % 256 ≡ b = omega (arith, bytes 0) in
    let e : size + suc (length bs) ≡ suc size + length bs = omega arith in
    ap (λ (n : ℕ). big_endian_bytes n (big_endian_from (a * 256 + b) bs)) e
    ∙ big_endian_bytes_behind (suc size) (a * 256 + b) bs (λ i. bytes (suc i))
    ∙ rw (d, m) (append_snoc (big_endian_bytes size a) b bs)

pub big_endian_bytes_again : (bs : List ℕ) → ((i : ℕ) → get_or bs i 0 < 256) → big_endian_bytes (length bs) (big_endian bs) ≡ bs
unfolding big_endian big_endian_bytes
big_endian_bytes_again bs bytes = ap (λ (n : ℕ). big_endian_bytes n (big_endian_from 0 bs)) (sym (zero-add (length bs))) ∙ big_endian_bytes_behind 0 0 bs bytes

-- ---- past the number's end there are zeros

pub little_endian_bytes_add : (m n number : ℕ) → little_endian_bytes (m + n) number ≡ little_endian_bytes m number ++ little_endian_bytes n (number / 256 ^ m)
unfolding little_endian_bytes
little_endian_bytes_add zero n number = rw (zero-add, div-one)
little_endian_bytes_add (suc m) n number = rw (suc-add, pow-succ', ← div-div-eq-div-mul, little_endian_bytes_add m n (number / 256))

pub little_endian_bytes_zero : (size : ℕ) → little_endian_bytes size 0 ≡ replicate size 0
unfolding little_endian_bytes
little_endian_bytes_zero zero = refl
little_endian_bytes_zero (suc size) = ap (λ (bs : List ℕ). 0 ∷ bs) (little_endian_bytes_zero size)

pub little_endian_bytes_pad : (m n number : ℕ) → number < 256 ^ m → little_endian_bytes (m + n) number ≡ little_endian_bytes m number ++ replicate n 0
little_endian_bytes_pad m n number h = rw (little_endian_bytes_add, div-eq_of_lt h, little_endian_bytes_zero)
