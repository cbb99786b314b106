-- One more round, and one less of the inverse. Assumes nothing.
use Prim.Native.Nat.{ℕ, zero, suc, ◌+◌, ◌-◌, ◌≤◌, ◌<◌}
use native.Mathlib.Nat.{not-suc-le-zero}
use native.Mathlib.Numerals.{sub-one}
use native.Mathlib.Omega.{arith}
use mathlib.Core.{Path.{◌≡◌, ap, ap₂, ◌∙◌}, List.List}
use Rattle.aes_words.specs.Words.{Words}
use Rattle.aes_steps.specs.Rounds.{round, inv_round}
use Rattle.aes.specs.Cipher.{round_key, rounds, inv_rounds}

pub after_round : (keys : List Words) (r : ℕ) (s start : Words) → 1 ≤ r → s ≡ rounds keys (r - 1) start
    → round (round_key keys r) s ≡ rounds keys (r + 1 - 1) start
unfolding rounds
after_round keys zero s start h e = absurd (not-suc-le-zero h)
after_round keys (suc r) s start h e =
    let before : suc r - 1 ≡ r = omega arith in
    let here : suc r ≡ suc r + 1 - 1 = omega arith in
    ap (round (round_key keys (suc r))) (e ∙ ap (λ (n : ℕ). rounds keys n start) before) ∙ ap (λ (n : ℕ). rounds keys n start) here

pub after_inv_round : (keys : List Words) (r : ℕ) (s after : Words) → 0 < r → after ≡ inv_round (round_key keys r) s
    → inv_rounds keys (r - 1) after ≡ inv_rounds keys r s
unfolding inv_rounds
after_inv_round keys zero s after h e = absurd (not-suc-le-zero h)
after_inv_round keys (suc r) s after h e = ap₂ (inv_rounds keys) (sub-one (suc r)) e
