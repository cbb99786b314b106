-- Any two interleavings of the same two lists end alike, and tell each side the same, but for what outer reads give of protected sectors.
-- Assumes nothing.
use Prim.Native.Nat.{ℕ}
use mathlib.Core.{Path.{◌≡◌, sym, ap, ◌∙◌, subst₂}, Bool.{Bool, not}, List.{List, map}}
use Rattle.model.specs.{Sectors.sector_at, Model.{Rules, State, state_with, Reply, replies, final}, Runs.Run}
use Rattle.model.specs.Sides.{Side, outer, hidden, Turn, Interleaves, Both, at, each_with, OnSide, sided, by_side, unprotected}
use Rattle.model.proofs.Alone.{picks_outer, picks_hidden, picked_alike}
use Rattle.model.proofs.Cases.{test_cases}
use Rattle.model.proofs.Lawful.{Lawful}
use Rattle.model.proofs.ReplySameness.{reply_hidden_same, unprotected_outer_same}
use Rattle.model.proofs.RunLaws.{Models, run_agrees}
use Rattle.model.proofs.Sameness.{owns, Apart, Same}
use Rattle.model.proofs.SectorLaws.{sectors_ext}
use Rattle.model.proofs.SideLaws.{sided_models}

module _ {Call Lock Answer : Type 0} (rules : Side → Rules Call Lock Answer) (protects : ℕ → Bool) where
  -- models that are the same for both sides are equal
  same_both : (model other : State (Both Lock)) → Same rules protects outer model other → Same rules protects hidden model other → model ≡ other
  unfolding at owns
  same_both model other o h =
      let images =
      sectors_ext model.image other.image o.same_length
      (λ host.
      test_cases (λ b. sector_at host model.image ≡ sector_at host other.image) (protects host) (h.same_sector host)
      (λ e. o.same_sector host (ap not e))) in
      λ i. record { image = images i; held = record { outer_one = o.same_lock i; hidden_one = h.same_lock i } }

  -- two lists of calls, each with its replies, tell the sides the same
  pub record Alike (turns others : List (Turn Call)) (answers other_answers : List (Reply Answer)) : Type 0 where
    pub to_hidden : map (λ r. r.1) (at hidden (by_side turns answers)) ≡ map (λ r. r.1) (at hidden (by_side others other_answers))
    pub to_outer : map (unprotected (rules outer) protects) (at outer (by_side turns answers))
        ≡ map (unprotected (rules outer) protects) (at outer (by_side others other_answers))

  module _ (lawful : (side : Side) → Lawful (rules side)) (apart : Apart rules protects) where
    model_independent : {xs ys : List Call} {turns others : List (Turn Call)} (model : State (Both Lock))
        → Interleaves xs ys turns → Interleaves xs ys others
        → (final (sided rules) turns model ≡ final (sided rules) others model)
        × Alike turns others (replies (sided rules) turns model) (replies (sided rules) others model)
    model_independent {turns = turns} {others = others} model merged otherwise =
        let h =
        picked_alike rules protects lawful apart (λ r. r.1) hidden (reply_hidden_same rules protects lawful apart) (picks_hidden merged)
        (picks_hidden otherwise) model in
        let o =
        picked_alike rules protects lawful apart (unprotected (rules outer) protects) outer (unprotected_outer_same rules protects lawful apart)
        (picks_outer merged) (picks_outer otherwise) model in
        (same_both (final (sided rules) turns model) (final (sided rules) others model) o.0 h.0, record { to_hidden = h.1; to_outer = o.1 })

    module _ {Held : Type 0} (view : Side → Lock → Held) (Step : State Held → Call → Reply Answer → State Held → Type 0)
        (models : (side : Side) → Models (rules side) (view side) Step) (model : State (Both Lock)) where
      -- .. and so do runs of them
      pub run_independent : {xs ys : List Call} {turns others : List (Turn Call)} {answers other_answers : List (Reply Answer)}
          {last other_last : State (Both Held)}
          → Interleaves xs ys turns → Interleaves xs ys others
          → Run (OnSide Step) (state_with (each_with view) model) turns answers last
          → Run (OnSide Step) (state_with (each_with view) model) others other_answers other_last
          → (last ≡ other_last) × Alike turns others answers other_answers
      run_independent {turns = turns} {others = others} merged otherwise run other =
          let together = sided_models rules view Step models in
          let m = run_agrees (sided rules) (each_with view) (OnSide Step) together model run in
          let n = run_agrees (sided rules) (each_with view) (OnSide Step) together model other in
          let same = model_independent model merged otherwise in
          (m.1 ∙ ap (state_with (each_with view)) same.0 ∙ sym n.1, subst₂ (Alike turns others) (sym m.0) (sym n.0) same.1)
