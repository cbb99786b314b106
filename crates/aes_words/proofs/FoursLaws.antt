-- Lists in pieces of four, as `as_chunks` cuts them. Assumes nothing.
use Prim.Native.Nat.{ℕ, zero, suc, ◌+◌, ◌*◌, ◌/◌}
use native.Mathlib.Omega.{arith}
use mathlib.Core.{Path.{◌≡◌, refl, ap, ap₂, ◌∙◌}, List.{List, ◌∷◌}}
use lib.ListN.{length, take, drop}
use Rattle.std.proofs.lemmas.List.{take-take, drop-take}
use Rattle.std.specs.Simd.{first_chunks}
use Rattle.aes_words.specs.Words.{in_fours}

chunks_of_four : {A : Type 0} (n : ℕ) (list : List A) → first_chunks 4 n list ≡ in_fours n list
unfolding in_fours
chunks_of_four zero list = refl
chunks_of_four (suc n) list = ap (◌∷◌ (take 4 list)) (chunks_of_four n (drop 4 list))

pub cut_in_fours : {A : Type 0} (n : ℕ) (list : List A) → length list ≡ 4 * n → first_chunks 4 (length list / 4) list ≡ in_fours n list
cut_in_fours n list whole = ap (λ (k : ℕ). first_chunks 4 k list) (omega arith) ∙ chunks_of_four n list

-- the first pieces of a list that goes on
pub fours_of_part : {A : Type 0} (n : ℕ) (list : List A) → in_fours n (take (4 * n) list) ≡ in_fours n list
unfolding in_fours
fours_of_part zero list = refl
fours_of_part {A = A} (suc n) list =
    let more : 4 * suc n ≡ 4 + 4 * n = omega arith in
    ap (λ (k : ℕ). in_fours (suc n) (take k list)) more
    ∙ ap₂ (λ (piece : List A) (pieces : List (List A)). piece ∷ pieces) (take-take 4 (4 + 4 * n) list (omega arith))
    (ap (in_fours n) (drop-take 4 (4 * n) list) ∙ fours_of_part n (drop 4 list))
