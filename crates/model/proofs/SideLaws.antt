-- The two sides: what is put on one is there, and leaves the other; and where each side's steps are its rules', so are both sides' together.
-- Assumes nothing.
use mathlib.Core.{Path.{◌≡◌, refl, sym, ap, ◌∙◌, subst}, Bool.{Bool, true, false, true≢false}}
use Rattle.model.specs.Model.{Rules, State, state_with, Reply, judged, buffer_after, image_after, reply, next}
use Rattle.model.specs.Sides.{Side, outer, hidden, Turn, Both, at, put, each_with, OnSide, sided}
use Rattle.model.proofs.RunLaws.{Models}

-- two sides are one
unfoldable pub is_side : Side → Side → Bool
is_side outer outer = true
is_side outer hidden = false
is_side hidden outer = false
is_side hidden hidden = true

pub at_put_same : {A : Type 0} (side : Side) (one : A) (both : Both A) → at side (put side one both) ≡ one
unfolding at put
at_put_same outer one both = refl
at_put_same hidden one both = refl

pub at_put_other : {A : Type 0} (side other : Side) (one : A) (both : Both A) → is_side side other ≡ false → at side (put other one both) ≡ at side both
unfolding is_side at put
at_put_other outer outer one both e = absurd (true≢false e)
at_put_other outer hidden one both e = refl
at_put_other hidden outer one both e = refl
at_put_other hidden hidden one both e = absurd (true≢false e)

module _ {Lock Held : Type 0} (view : Side → Lock → Held) where
  pub at_each : (side : Side) (locks : Both Lock) → at side (each_with view locks) ≡ view side (at side locks)
  unfolding at each_with
  at_each outer locks = refl
  at_each hidden locks = refl

  put_each : (side : Side) (lock : Lock) (locks : Both Lock) → put side (view side lock) (each_with view locks) ≡ each_with view (put side lock locks)
  unfolding put each_with
  put_each outer lock locks = refl
  put_each hidden lock locks = refl

module _ {Call Lock Answer Held : Type 0} (rules : Side → Rules Call Lock Answer) (view : Side → Lock → Held)
    (Step : State Held → Call → Reply Answer → State Held → Type 0) where
  pub sided_models : ((side : Side) → Models (rules side) (view side) Step) → Models (sided rules) (each_with view) (OnSide Step)
  unfolding sided reply next judged buffer_after image_after state_with
  sided_models models turn model given after on =
      let side = turn.side in
      let locks = model.held in
      let own : State Lock = record { image = model.image; held = at side locks } in
      let kept =
      subst (λ (held : Held). Step (record { image = model.image; held = held }) turn.call given on.left) (at_each view side locks) on.keeps in
      let one = models side turn.call own given on.left kept in (
        one.0,
        on.leaves
            ∙ ap (λ (left : State Held). record { image = left.image; held = put side left.held (each_with view locks) }) one.1
            ∙ ap (λ (held : Both Held). record { image = (next (rules side) turn.call own).image; held = held })
            (put_each view side (next (rules side) turn.call own).held locks),
      )

holds_put : {A : Type 0} (Holds : A → Type 0) (side other : Side) (one : A) (both : Both A) → Holds one → ((side : Side) → Holds (at side both))
    → Holds (at side (put other one both))
unfolding at put
holds_put Holds outer outer one both h holds = h
holds_put Holds outer hidden one both h holds = holds outer
holds_put Holds hidden outer one both h holds = holds hidden
holds_put Holds hidden hidden one both h holds = h

module _ {Held Call Given : Type 0} (Step : State Held → Call → Given → State Held → Type 0) where
  -- where every call has a step, so has every call on a side
  pub on_side_exists : ((state : State Held) (call : Call) → (given : Given) × (after : State Held) × Step state call given after)
      → (state : State (Both Held)) (turn : Turn Call) → (given : Given) × (after : State (Both Held)) × OnSide Step state turn given after
  on_side_exists exists state turn =
      let one = exists (record { image = state.image; held = at turn.side state.held }) turn.call in
      (one.0, _, record { left = one.1; keeps = one.2; leaves = refl })

  -- where every step is one of another kind, so is every step on a side
  pub on_side_carries : {Other Told : Type 0} (Step' : State Other → Call → Told → State Other → Type 0)
      (become : Held → Other) (tell : Given → Told) (Holds : Held → Type 0)
      → ((state after : State Held) (call : Call) (given : Given) → Holds state.held → Step state call given after
      → Step' (state_with become state) call (tell given) (state_with become after) × Holds after.held)
      → (state after : State (Both Held)) (turn : Turn Call) (given : Given) → ((side : Side) → Holds (at side state.held))
      → OnSide Step state turn given after
      → OnSide Step' (state_with (each_with (λ side. become)) state) turn (tell given) (state_with (each_with (λ side. become)) after)
      × ((side : Side) → Holds (at side after.held))
  unfolding state_with
  on_side_carries Step' become tell Holds carries state after turn given holds on =
      let each = each_with (λ (side : Side). become) in
      let held = state.held in
      let left = on.left in
      let one = carries (record { image = state.image; held = at turn.side held }) left turn.call given (holds turn.side) on.keeps in (
        record {
          left = state_with become left;
          keeps = rw (at_each (λ (side : Side). become) turn.side held) one.0;
          leaves = λ i. record {
            image = (on.leaves i).image;
            held = (ap (λ (s : State (Both Held)). each s.held) on.leaves ∙ sym (put_each (λ (side : Side). become) turn.side left.held held)) i;
          };
        },
        λ side. subst (λ (s : State (Both Held)). Holds (at side s.held)) (sym on.leaves)
            (holds_put Holds side turn.side left.held held one.1 holds),
      )
