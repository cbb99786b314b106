-- `xts_tweaks::times_alpha` meets its contract.
use mathlib.Core.Path.{ap, ◌∙◌}
use Prim.Native.Nat.{ℕ}
use lib.ListN.{get_or}
use mathlib.Core.List.{[], ◌∷◌}
use Rattle.bits.specs.Bits.{entries}
use Rattle.aes_steps.specs.Blocks.{byte_at, block, block_byte}
use Rattle.aes_words.specs.Words.{word}
use Rattle.xts_tweaks.specs.Tweaks.{raised_word, alpha_byte, times_alpha}
use Rattle.xts_tweaks.proofs.times_alpha.Goals as goal

pub returns : goal.returns
unfolding times_alpha block word entries alpha_byte block_byte byte_at raised_word
returns c =
    let first = c.raise_word.ensures ∙ ap (λ (carry : ℕ). raised_word carry (get_or c.args.t 0 [])) c.reduced.ensures in
    λ i. first i ∷ c.raise_word-2.ensures i ∷ c.raise_word-3.ensures i ∷ c.raise_word-4.ensures i ∷ []
