-- `opening::first_refusal` meets its contract.
use Prim.Native.Nat.{ℕ}
use mathlib.Core.{Path.{◌≡◌, refl, sym, ap, ◌∙◌}, Bool.{Bool, true, false, cond}}
use lib.Dec.{eqb}
use borrow.Author.Tests.{eqb-true, eq-eqb, ne_eqb}
use Rattle.std.specs.Prelude.{Err}
use Rattle.answers.specs.{Answers.{refusal_by}, declared.Refusal.Refusal}
use Rattle.opening.specs.Opening.{further}
use Rattle.opening.proofs.first_refusal.Goals as goal

-- 4 behind any refusal changes nothing
none-later : (first later : ℕ) → later ≡ 4 → refusal_by first ≡ cond (eqb first 4) (refusal_by later) (refusal_by first)
none-later first later e = go (eqb first 4) refl
  where
    go : (is-4 : Bool) → eqb first 4 ≡ is-4 → refusal_by first ≡ cond is-4 (refusal_by later) (refusal_by first)
    go true h = ap refusal_by (eqb-true first 4 h ∙ sym e)
    go false h = refl

pub returns-then-later-eq-NO_HEADER : goal.returns-then-later-eq-NO_HEADER
unfolding further
returns-then-later-eq-NO_HEADER c = ap (λ (r : Refusal). Err r) (none-later _ _ c.if-later-eq-NO_HEADER.true)

pub returns-then-first-eq-NO_HEADER : goal.returns-then-first-eq-NO_HEADER
unfolding further
returns-then-first-eq-NO_HEADER c = simp (eq-eqb _ _ c.if-first-eq-NO_HEADER.true)

pub returns-else-first-eq-NO_HEADER : goal.returns-else-first-eq-NO_HEADER
unfolding further
returns-else-first-eq-NO_HEADER c = simp (ne_eqb _ _ c.if-first-eq-NO_HEADER.false)
