-- Calls on two views of one image, an outer and a hidden one: their interleavings, their rules together, and what each side is told.
-- Assumes nothing.
use Rattle.std.specs.Prelude.{ℕ}
use mathlib.Core.{Path.◌≡◌, Bool.{Bool, not, ◌&&◌, cond}, List.{List, [], ◌∷◌}}
use Rattle.std.specs.Prelude.{take, drop}
use Rattle.model.specs.Model.{Rules, State, Reply}

-- the view that a call is on
pub data Side : Type 0 where
  outer hidden : Side

-- a call on its view
pub record Turn (Call : Type 0) : Type 0 where
  pub side : Side
  pub call : Call

abbrev pub turn : {Call : Type 0} → Side → Call → Turn Call
turn side call = record { side = side; call = call }

-- an interleaving of two lists: each list's calls in their order
pub data Interleaves {Call : Type 0} : List Call → List Call → List (Turn Call) → Type 0 where
  none : Interleaves [] [] []
  from_outer : {call : Call} {xs ys : List Call} {turns : List (Turn Call)} → Interleaves xs ys turns → Interleaves (call ∷ xs) ys (turn outer call ∷ turns)
  from_hidden : {call : Call} {xs ys : List Call} {turns : List (Turn Call)} → Interleaves xs ys turns → Interleaves xs (call ∷ ys) (turn hidden call ∷ turns)

-- one for each side
pub record Both (A : Type 0) : Type 0 where
  pub outer_one : A
  pub hidden_one : A

-- that of a side, and another one put there
unfoldable pub at : {A : Type 0} → Side → Both A → A
at outer both = both.outer_one
at hidden both = both.hidden_one

unfoldable pub put : {A : Type 0} → Side → A → Both A → Both A
put outer one both = record { outer_one = one; hidden_one = both.hidden_one }
put hidden one both = record { outer_one = both.outer_one; hidden_one = one }

-- something else on each side
unfoldable pub each_with : {A B : Type 0} → (Side → A → B) → Both A → Both B
each_with other both = record { outer_one = other outer both.outer_one; hidden_one = other hidden both.hidden_one }

-- a call that keeps its contract: its view is as the call before it on its side left it, and the image as the latest of all calls did
pub record OnSide {Held Call Given : Type 0} (Step : State Held → Call → Given → State Held → Type 0)
    (state : State (Both Held)) (call : Turn Call) (given : Given) (after : State (Both Held)) : Type 0 where
  pub left : State Held
  pub keeps : Step (record { image = state.image; held = at call.side state.held }) call.call given left
  pub leaves : after ≡ record { image = left.image; held = put call.side left.held state.held }

-- the rules of both sides' calls: each call goes by its side's rules and lock
unfoldable pub sided : {Call Lock Answer : Type 0} → (Side → Rules Call Lock Answer) → Rules (Turn Call) (Both Lock) Answer
sided rules =
    record {
      buffer = λ turn. (rules turn.side).buffer turn.call;
      writes = λ turn. (rules turn.side).writes turn.call;
      hosts = λ turn. (rules turn.side).hosts turn.call;
      judge = λ turn locks. (rules turn.side).judge turn.call (at turn.side locks);
      accepts = λ turn. (rules turn.side).accepts turn.call;
      lock_after = λ turn answer locks. put turn.side ((rules turn.side).lock_after turn.call answer (at turn.side locks)) locks;
      stored = λ turn. (rules turn.side).stored turn.call;
      shown = λ turn. (rules turn.side).shown turn.call;
    }

-- a list of calls and their replies, each side's by themselves
unfoldable pub by_side : {Call Given : Type 0} → List (Turn Call) → List Given → Both (List (Call × Given))
by_side [] answers = record { outer_one = []; hidden_one = [] }
by_side (turn ∷ turns) [] = record { outer_one = []; hidden_one = [] }
by_side (turn ∷ turns) (given ∷ answers) =
    let rest = by_side turns answers in put turn.side ((turn.call, given) ∷ at turn.side rest) rest

-- the pieces of a buffer, but for those of protected sectors, which are left out
unfoldable pub unprotected_pieces : (ℕ → Bool) → List ℕ → List ℕ → List (List ℕ)
unprotected_pieces protects [] buffer = []
unprotected_pieces protects (host ∷ hosts) buffer =
    cond (protects host) [] (take 512 buffer) ∷ unprotected_pieces protects hosts (drop 512 buffer)

-- a reply but for protected sectors: its answer, and its buffer, of an accepted read in pieces
unfoldable pub unprotected : {Call Lock Answer : Type 0} → Rules Call Lock Answer → (ℕ → Bool) → Call × Reply Answer → Answer × List (List ℕ)
unprotected rules protects (call, given) = (
  given.answer,
  cond (not (rules.writes call) && rules.accepts call given.answer) (unprotected_pieces protects (rules.hosts call) given.buffer) (given.buffer ∷ []),
)
