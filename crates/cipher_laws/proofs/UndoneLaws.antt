-- Functions that undo one another, one after another. Assumes nothing.
use mathlib.Core.Path.{ap, ◌∙◌}
use Rattle.aes_words.specs.Words.{Words}
use Rattle.mix_laws.specs.Blocks.{Undone, Inverses}

pub undone_then : {f g f' g' : Words → Words} → Undone f g → Undone f' g' → Undone (λ s. f' (f s)) (λ s. g (g' s))
undone_then {f = f} {g = g} first next =
    record {
      kept = λ s b. next.kept (f s) (first.kept s b);
      back = λ s b. ap g (next.back (f s) (first.kept s b)) ∙ first.back s b;
    }

pub inverses_then : {f g f' g' : Words → Words} → Inverses f g → Inverses f' g' → Inverses (λ s. f' (f s)) (λ s. g (g' s))
inverses_then first next = (undone_then first.0 next.0, undone_then next.1 first.1)
