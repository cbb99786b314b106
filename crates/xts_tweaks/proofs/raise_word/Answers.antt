-- `xts_tweaks::raise_word` meets its contract.
use Rattle.std.proofs.Common.{arith, ℕ, ◌≡◌, ◌*◌, ◌/◌, ◌%◌, [], ◌∷◌, get_or, bit_xor}
use Rattle.xts_tweaks.specs.Tweaks.{raised, raised_word}
use Rattle.xts_tweaks.proofs.raise_word.Goals as goal

moved_up : (byte : ℕ) → byte * 2 % 256 ≡ 2 * (byte % 128)
moved_up byte = omega arith

pub returns : goal.returns
unfolding raised_word raised
returns c =
    let w = c.args.w in
    let byte = λ (r : ℕ). get_or w r 0 in
    λ i. bit_xor (moved_up (byte 0) i) c.args.carry ∷ bit_xor (moved_up (byte 1) i) (byte 0 / 128) ∷ bit_xor (moved_up (byte 2) i) (byte 1 / 128)
    ∷ bit_xor (moved_up (byte 3) i) (byte 2 / 128) ∷ []
