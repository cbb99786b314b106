-- What a placement says of the answer that gave it.
-- Assumes nothing.
use Prim.Native.Nat.{ℕ}
use mathlib.Core.Path.{◌≡◌, refl, sym, ◌∙◌, subst}
use Rattle.answers.specs.{Answers.{answer_sector, Answer, refusal_number}, declared.Refusal.Refusal}
use Rattle.layout.specs.declared.Layout.{Layout}
use Rattle.judgement.specs.Offsets.{extent_start, placed_by}
use Rattle.std.specs.Prelude.{Ok, Err, ⊤}

module _ (layout : Layout) (first : ℕ) where
  -- an acceptance and the extent's first byte, or the same refusal
  Says : Answer ⊤ → Answer ℕ → Type 0
  Says given (Ok start) = (given ≡ Ok tt) × (start ≡ extent_start layout first)
  Says given (Err refusal) = given ≡ Err refusal

  says : (given : Answer ⊤) → Says given (placed_by given layout first)
  unfolding Says placed_by
  says (Ok done) = (refl, refl)
  says (Err refusal) = refl

  module _ {given : Answer ⊤} {placement : Answer ℕ} (e : placement ≡ placed_by given layout first) where
    pub placed_accepted : {start : ℕ} → placement ≡ Ok start → (given ≡ Ok tt) × (start ≡ extent_start layout first)
    unfolding Says
    placed_accepted f = subst (Says given) (sym e ∙ f) (says given)

    pub placed_refused : {refusal : Refusal} → placement ≡ Err refusal → given ≡ Err refusal
    unfolding Says
    placed_refused f = subst (Says given) (sym e ∙ f) (says given)

  -- and back
  module _ {given : Answer ⊤} where
    pub refused_placed : {refusal : Refusal} → given ≡ Err refusal → Err refusal ≡ placed_by given layout first
    unfolding placed_by
    refused_placed e = rw e

    pub accepted_placed : given ≡ Ok tt → Ok (extent_start layout first) ≡ placed_by given layout first
    unfolding placed_by
    accepted_placed e = rw e

  -- both are told by the same number and sector
  pub placed_number : (given : Answer ⊤) → refusal_number (placed_by given layout first) ≡ refusal_number given
  unfolding placed_by refusal_number
  placed_number (Ok done) = refl
  placed_number (Err refusal) = refl

  pub placed_sector : (given : Answer ⊤) → answer_sector (placed_by given layout first) ≡ answer_sector given
  unfolding placed_by answer_sector
  placed_sector (Ok done) = refl
  placed_sector (Err refusal) = refl
