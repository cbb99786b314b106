-- Blocks of bytes, and functions that undo one another on them. Assumes nothing.
use Rattle.std.specs.Prelude.{ℕ, ◌<◌, get_or}
use mathlib.Core.{Path.◌≡◌, List.List}
use Rattle.aes_words.specs.Words.{Words}
use Rattle.aes_steps.specs.Blocks.{byte_at, block}

-- a word of bytes, and words of them
abbrev pub SmallWord : List ℕ → Type 0
SmallWord w = (r : ℕ) → get_or w r 0 < 256

abbrev pub Small : Words → Type 0
Small s = (r c : ℕ) → byte_at s r c < 256

-- a block: four words of four bytes
pub record Block (s : Words) : Type 0 where
  pub shaped : s ≡ block (byte_at s)
  pub small : Small s

-- what f makes of a block is a block, and g undoes it
pub record Undone (f g : Words → Words) : Type 0 where
  pub kept : (s : Words) → Block s → Block (f s)
  pub back : (s : Words) → Block s → g (f s) ≡ s

-- each undoes the other
abbrev pub Inverses : (Words → Words) → (Words → Words) → Type 0
Inverses f g = Undone f g × Undone g f
