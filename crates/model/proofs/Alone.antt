-- What a side sees does not depend on the other side's calls: its replies, and the model as far as it is the side's, are those of its calls
-- alone. Assumes nothing.
use Prim.Native.Nat.{ℕ}
use mathlib.Core.{Path.{◌≡◌, refl, sym, ap, ap₂, ◌∙◌}, Bool.{Bool, false}, List.{List, [], ◌∷◌, map}}
use Rattle.model.specs.Model.{Rules, State, Reply, reply, next, replies, final}
use Rattle.model.specs.Sides.{Side, outer, hidden, Turn, turn, Interleaves, none, from_outer, from_hidden}
use Rattle.model.specs.Sides.{Both, at, sided, by_side}
use Rattle.model.proofs.Lawful.{Lawful}
use Rattle.model.proofs.Sameness.{Apart, Same, same_refl, same_sym, same_trans, next_same, next_other}
use Rattle.model.proofs.SideLaws.{is_side, at_put_same, at_put_other}

-- one side's calls of a list
pub data Picks {Call : Type 0} (side : Side) : List Call → List (Turn Call) → Type 0 where
  nothing : Picks side [] []
  own : {call : Call} {calls : List Call} {turns : List (Turn Call)} → Picks side calls turns → Picks side (call ∷ calls) (turn side call ∷ turns)
  others : {t : Turn Call} {calls : List Call} {turns : List (Turn Call)} → is_side side t.side ≡ false → Picks side calls turns
      → Picks side calls (t ∷ turns)

module _ {Call : Type 0} where
  pub picks_outer : {xs ys : List Call} {turns : List (Turn Call)} → Interleaves xs ys turns → Picks outer xs turns
  unfolding is_side
  picks_outer none = nothing
  picks_outer (from_outer merged) = own (picks_outer merged)
  picks_outer (from_hidden merged) = others refl (picks_outer merged)

  pub picks_hidden : {xs ys : List Call} {turns : List (Turn Call)} → Interleaves xs ys turns → Picks hidden ys turns
  unfolding is_side
  picks_hidden none = nothing
  picks_hidden (from_outer merged) = others refl (picks_hidden merged)
  picks_hidden (from_hidden merged) = own (picks_hidden merged)

at_nil : {A : Type 0} (side : Side) → ◌≡◌ {A = List A} (at side (record { outer_one = []; hidden_one = [] })) []
unfolding at
at_nil outer = refl
at_nil hidden = refl

module _ {Call Lock Answer : Type 0} (rules : Side → Rules Call Lock Answer) (protects : ℕ → Bool)
    (lawful : (side : Side) → Lawful (rules side)) (apart : Apart rules protects) where
  -- a side's calls with no others between them: what they tell it, and the model after them
  told_alone : {A : Type 0} → (Call × Reply Answer → A) → Side → List Call → State (Both Lock) → List A
  told_alone tell side [] model = []
  told_alone tell side (call ∷ calls) model =
      tell (call, reply (sided rules) (turn side call) model) ∷ told_alone tell side calls (next (sided rules) (turn side call) model)

  final_alone : Side → List Call → State (Both Lock) → State (Both Lock)
  final_alone side [] model = model
  final_alone side (call ∷ calls) model = final_alone side calls (next (sided rules) (turn side call) model)

  -- what a side is told of a reply is the same for models that are the same for it
  abbrev pub Tells : {A : Type 0} → (Call × Reply Answer → A) → Side → Type 0
  Tells tell side =
      (call : Call) (model other : State (Both Lock)) → Same rules protects side model other
      → tell (call, reply (sided rules) (turn side call) model) ≡ tell (call, reply (sided rules) (turn side call) other)

  alone : {A : Type 0} (tell : Call × Reply Answer → A) (side : Side) → Tells tell side
      → {calls : List Call} {turns : List (Turn Call)} → Picks side calls turns → (model other : State (Both Lock)) → Same rules protects side model other
      → Same rules protects side (final (sided rules) turns model) (final_alone side calls other)
      × (map tell (at side (by_side turns (replies (sided rules) turns model))) ≡ told_alone tell side calls other)
  unfolding final replies by_side told_alone final_alone
  alone tell side tells nothing model other s = (s, ap (map tell) (at_nil side))
  alone tell side tells (own {call = call} picks) model other s =
      let rest =
      alone tell side tells picks (next (sided rules) (turn side call) model) (next (sided rules) (turn side call) other)
      (next_same rules protects lawful apart side call model other s) in
      (rest.0, ap (map tell) (at_put_same side _ _) ∙ ap₂ ◌∷◌ (tells call model other s) rest.1)
  alone tell side tells (others {t = t} e picks) model other s =
      let rest =
      alone tell side tells picks (next (sided rules) t model) other (same_trans rules protects (next_other rules protects lawful apart side t model e) s) in
      (rest.0, ap (map tell) (at_put_other side t.side _ _ e) ∙ rest.1)

  -- so any two lists with the same calls of a side tell it the same, and leave the same of it
  pub picked_alike : {A : Type 0} (tell : Call × Reply Answer → A) (side : Side) → Tells tell side
      → {calls : List Call} {turns other_turns : List (Turn Call)} → Picks side calls turns → Picks side calls other_turns → (model : State (Both Lock))
      → Same rules protects side (final (sided rules) turns model) (final (sided rules) other_turns model)
      × (map tell (at side (by_side turns (replies (sided rules) turns model)))
      ≡ map tell (at side (by_side other_turns (replies (sided rules) other_turns model))))
  picked_alike tell side tells picks other_picks model =
      let a = alone tell side tells picks model model (same_refl rules protects) in
      let b = alone tell side tells other_picks model model (same_refl rules protects) in
      (same_trans rules protects a.0 (same_sym rules protects b.0), a.1 ∙ sym b.1)
