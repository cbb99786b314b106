-- The words of the key expansion: what is made of the word before, and one more word. Assumes nothing.
use Prim.Native.Nat.{ℕ, suc, ◌+◌, ◌-◌, ◌/◌, ◌%◌, ◌≤◌, ◌<◌}
use native.Mathlib.Numerals.{add-one}
use native.Mathlib.Omega.{arith}
use mathlib.Core.{Path.{◌≡◌, sym, ap, ap₂, ◌∙◌}, List.{List, [], ◌∷◌, ◌++◌}}
use lib.ListN.{length, get_or, set, take}
use lib.Seq.{take-suc-set, get_or-take}
use borrow.Author.Tests.{eq-eqb, ne_eqb}
use Rattle.bits.proofs.TestLaws.{same_below}
use Rattle.aes_words.specs.Words.{Words}
use Rattle.aes_tables.specs.Field.{times_x}
use Rattle.aes_words.specs.Words.{sub_word, add_word}
use Rattle.key_expansion.specs.KeyExpansion.{rot_word}
use Rattle.key_expansion.specs.KeyExpansion.{power_of_x, round_constant, turned, next_word, grown}

pub power_at : (j : ℕ) → j - 1 < 7 → get_or (1 ∷ 2 ∷ 4 ∷ 8 ∷ 16 ∷ 32 ∷ 64 ∷ []) (j - 1) 0 ≡ power_of_x (j - 1)
unfolding power_of_x times_x
power_at j h = same_below (λ n. get_or (1 ∷ 2 ∷ 4 ∷ 8 ∷ 16 ∷ 32 ∷ 64 ∷ []) n 0) power_of_x 7 tt (j - 1) h

pub turned_eighth : (i : ℕ) (w : List ℕ) → i % 8 ≡ 0 → add_word (sub_word (rot_word w)) (round_constant (i / 8)) ≡ turned i w
unfolding turned
turned_eighth i w e = simp (eq-eqb (i % 8) 0 e)

pub turned_half : (i : ℕ) (w : List ℕ) → (i % 8 ≡ 0 → ⊥) → i % 8 ≡ 4 → sub_word w ≡ turned i w
unfolding turned
turned_half i w n e = simp (ne_eqb (i % 8) 0 n, eq-eqb (i % 8) 4 e)

pub turned_other : (i : ℕ) (w : List ℕ) → (i % 8 ≡ 0 → ⊥) → (i % 8 ≡ 4 → ⊥) → w ≡ turned i w
unfolding turned
turned_other i w n m = simp (ne_eqb (i % 8) 0 n, ne_eqb (i % 8) 4 m)

-- one more word, put in its place
pub next_word_lem : (start ws : Words) (i : ℕ) (w : List ℕ) → 8 ≤ i → i < length ws → take i ws ≡ grown (i - 8) start
    → w ≡ add_word (get_or ws (i - 8) []) (turned i (get_or ws (i - 1) [])) → take (i + 1) (set ws i w) ≡ grown (i + 1 - 8) start
unfolding grown next_word
next_word_lem start ws i w h inside done e =
    let before = grown (i - 8) start in
    let at : 8 + (i - 8) ≡ i = omega arith in
    let more : suc (i - 8) ≡ i + 1 - 8 = omega arith in
    let eighth = sym (get_or-take i ws (i - 8) [] (omega arith)) ∙ ap (λ (l : Words). get_or l (i - 8) []) done in
    let last = sym (get_or-take i ws (i - 1) [] (omega arith)) ∙ ap (λ (l : Words). get_or l (i - 1) []) done in
    ap (λ (n : ℕ). take n (set ws i w)) (add-one i)
    ∙ take-suc-set ws i w inside
    ∙ ap₂ (λ (l : Words) (v : List ℕ). l ++ (v ∷ [])) done (e ∙ ap₂ (λ (a b : List ℕ). add_word a (turned i b)) eighth last)
    ∙ ap (λ (n : ℕ). before ++ (next_word before n ∷ [])) (sym at)
    ∙ ap (λ (n : ℕ). grown n start) more
