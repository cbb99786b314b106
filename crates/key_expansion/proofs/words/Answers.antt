use mathlib.Core.Path.{◌≡◌, refl, sym, ap, ap₂, ◌∙◌}
use Prim.Native.Nat.{ℕ, ◌-◌}
use native.Mathlib.Omega.{arith}
use lib.{ListN.{length-set}, Seq.take_all}
use Rattle.aes_words.specs.Words.{add_word}
use Rattle.key_expansion.specs.KeyExpansion.{grown}
use Rattle.key_expansion.proofs.ExpansionLaws.{next_word_lem}
use borrow.Author.Rules.{rules}
use Rattle.key_expansion.proofs.words.Goals as goal

pub loop-i-init : goal.loop-i-init
unfolding grown
loop-i-init c = (search rules, λ tables. refl)

pub loop-i-preserved : goal.loop-i-preserved
loop-i-preserved c =
    let loop = c.loop-i in (
      length-set loop.words loop.i c.add_word.result ∙ loop.invariant.0,
      λ tables. next_word_lem _ loop.words loop.i c.add_word.result (omega arith) (omega arith) (loop.invariant.1 tables)
          (c.add_word.ensures ∙ ap (add_word _) (c.turn.ensures tables)),
    )

pub returns : goal.returns
returns c tables =
    let loop = c.loop-i in
    let last : loop.i ≡ 60 = omega arith in
    sym (take_all loop.i loop.words (omega arith))
    ∙ loop.invariant.1 tables
    ∙ ap₂ grown (ap (λ (n : ℕ). n - 8) last) c.key_words-words.ensures
