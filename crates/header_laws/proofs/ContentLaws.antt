-- Fields laid one after another: each has its bytes where the later ones lie apart from it, and what none of them touches is as it was.
-- Assumes nothing.
use Prim.Native.Nat.{ℕ, zero, suc, ◌+◌, ◌/◌, ◌%◌, ◌≤◌, ◌<◌}
use native.Mathlib.Nat.{mod-lt, zero-lt-suc}
use native.Mathlib.Omega.{arith}
use mathlib.Core.{Path.{◌≡◌, refl, sym, ◌∙◌}, Bool.{Bool, true, false, ◌&&◌, cond, true≢false}, List.{List, [], ◌∷◌, ◌++◌}}
use lib.{Dec.leb, ListN.{length, get_or, take, drop}}
use borrow.Author.Tests.{leb-true}
use Rattle.bits.specs.Bits.{Bytes}
use Rattle.bits.proofs.BytesLaws.{bytes_take, bytes_drop, bytes_append}
use Rattle.fields.specs.{Bytes.{field_part, overlay}, declared.Field.Field}
use Rattle.fields.proofs.OverlayLaws.{length_overlay, part_overlay, part_before, part_behind}
use Rattle.numbers.specs.Numbers.{big_endian_bytes}
use Rattle.layout.proofs.RuleLaws.{and_true_left, and_true_right}
use Rattle.new_header.specs.NewHeader.{laid}

-- one field ends before the other starts
abbrev apart : Field → Field → Bool
apart f g = cond (leb (f.offset + f.size) g.offset) true (leb (g.offset + g.size) f.offset)

-- .. for each of several
abbrev pub all_apart : Field → List (Field × List ℕ) → Bool
all_apart f [] = true
all_apart f (c ∷ cs) = apart f c.0 && all_apart f cs

-- each field's bytes are as many as it has, and inside of n
abbrev pub Fit : ℕ → List (Field × List ℕ) → Type 0
Fit n [] = Unit
Fit n (c ∷ cs) = ((length c.1 ≡ c.0.size) × (leb (c.0.offset + c.0.size) n ≡ true)) × Fit n cs

one_length : (n : ℕ) (g : Field) (content h : List ℕ) → length h ≡ n → length content ≡ g.size → leb (g.offset + g.size) n ≡ true
    → length (overlay g.offset content h) ≡ n
one_length n g content h size whole inside =
    let fits : g.offset + length content ≤ length h = omega (arith, leb-true (g.offset + g.size) n inside) in
    length_overlay g.offset content h fits ∙ size

one_apart : (n : ℕ) (f g : Field) (content h : List ℕ) → apart f g ≡ true → length h ≡ n → length content ≡ g.size
    → leb (g.offset + g.size) n ≡ true → field_part f (overlay g.offset content h) ≡ field_part f h
one_apart n f g content h away size whole inside = go (leb (f.offset + f.size) g.offset) (leb (g.offset + g.size) f.offset) refl refl away
  where
    go : (a b : Bool) → leb (f.offset + f.size) g.offset ≡ a → leb (g.offset + g.size) f.offset ≡ b → cond a true b ≡ true
        → field_part f (overlay g.offset content h) ≡ field_part f h
    go true b p q e =
        part_before g.offset f.size f.offset content h (leb-true (f.offset + f.size) g.offset p)
        (omega (arith, leb-true (g.offset + g.size) n inside))
    go false true p q e =
        part_behind g.offset f.size f.offset content h (omega (arith, leb-true (g.offset + g.size) f.offset q))
        (omega (arith, leb-true (g.offset + g.size) n inside))
    go false false p q e = absurd (true≢false (sym e))

pub laid_length : (n : ℕ) (cs : List (Field × List ℕ)) (h : List ℕ) → length h ≡ n → Fit n cs → length (laid cs h) ≡ n
unfolding laid
laid_length n [] h size fit = size
laid_length n (c ∷ cs) h size fit = laid_length n cs (overlay c.0.offset c.1 h) (one_length n c.0 c.1 h size fit.0.0 fit.0.1) fit.1

pub laid_apart : (n : ℕ) (f : Field) (cs : List (Field × List ℕ)) (h : List ℕ) → length h ≡ n → Fit n cs → all_apart f cs ≡ true
    → field_part f (laid cs h) ≡ field_part f h
unfolding laid
laid_apart n f [] h size fit away = refl
laid_apart n f (c ∷ cs) h size fit away =
    laid_apart n f cs (overlay c.0.offset c.1 h) (one_length n c.0 c.1 h size fit.0.0 fit.0.1) fit.1
    (and_true_right (apart f c.0) (all_apart f cs) away)
    ∙ one_apart n f c.0 c.1 h (and_true_left (apart f c.0) (all_apart f cs) away) size fit.0.0 fit.0.1

-- the first of several
laid_first : (n : ℕ) (c : Field × List ℕ) (cs : List (Field × List ℕ)) (h : List ℕ) → length h ≡ n → Fit n (c ∷ cs)
    → all_apart c.0 cs ≡ true
    → field_part c.0 (laid (c ∷ cs) h) ≡ c.1
unfolding laid
laid_first n c cs h size fit away =
    laid_apart n c.0 cs (overlay c.0.offset c.1 h) (one_length n c.0 c.1 h size fit.0.0 fit.0.1) fit.1 away
    ∙ part_overlay c.0.offset c.0.size c.1 h fit.0.0 (omega (arith, leb-true (c.0.offset + c.0.size) n fit.0.1))

-- the one at an index
pub laid_at : (n k : ℕ) (cs : List (Field × List ℕ)) (none : Field × List ℕ) (h : List ℕ) → length h ≡ n → Fit n cs → k < length cs
    → all_apart (get_or cs k none).0 (drop (suc k) cs) ≡ true → field_part (get_or cs k none).0 (laid cs h) ≡ (get_or cs k none).1
unfolding laid
laid_at n k [] none h size fit inside away = absurd (omega arith)
laid_at n zero (c ∷ cs) none h size fit inside away = laid_first n c cs h size fit away
laid_at n (suc k) (c ∷ cs) none h size fit inside away =
    laid_at n k cs none (overlay c.0.offset c.1 h) (one_length n c.0 c.1 h size fit.0.0 fit.0.1) fit.1 (omega arith) away

pub fit_append : (n : ℕ) (cs ds : List (Field × List ℕ)) → Fit n cs → Fit n ds → Fit n (cs ++ ds)
fit_append n [] ds fit fit_d = fit_d
fit_append n (c ∷ cs) ds fit fit_d = (fit.0, fit_append n cs ds fit.1 fit_d)

-- ---- all of it is bytes where each content is

pub bytes_overlay : (at : ℕ) (content h : List ℕ) → Bytes content → Bytes h → Bytes (overlay at content h)
unfolding overlay
bytes_overlay at content h small small_h =
    bytes_append (take at h ++ content) (drop (at + length content) h) (bytes_append (take at h) content (bytes_take at h small_h) small)
    (bytes_drop (at + length content) h small_h)

pub bytes_big_endian : (size number : ℕ) → Bytes (big_endian_bytes size number)
unfolding big_endian_bytes
bytes_big_endian zero number = tt
bytes_big_endian (suc size) number =
    bytes_append (big_endian_bytes size (number / 256)) (number % 256 ∷ []) (bytes_big_endian size (number / 256)) (mod-lt number (zero-lt-suc 255), tt)

abbrev pub AllBytes : List (Field × List ℕ) → Type 0
AllBytes [] = Unit
AllBytes (c ∷ cs) = Bytes c.1 × AllBytes cs

pub bytes_laid : (cs : List (Field × List ℕ)) (h : List ℕ) → AllBytes cs → Bytes h → Bytes (laid cs h)
unfolding laid
bytes_laid [] h all small = small
bytes_laid (c ∷ cs) h all small = bytes_laid cs (overlay c.0.offset c.1 h) all.1 (bytes_overlay c.0.offset c.1 h all.0 small)
