-- Sequences of calls in which each keeps its contract, whatever the contract is. Assumes nothing.
use Rattle.std.specs.Prelude.{List, [], ◌∷◌}

module _ {State Call Reply : Type 0} (Step : State → Call → Reply → State → Type 0) where
  -- a run: each call finds the state as the one before it left it
  pub data Run : State → List Call → List Reply → State → Type 0 where
    done : {state : State} → Run state [] [] state
    step : {state next last : State} {call : Call} {calls : List Call} {given : Reply} {answers : List Reply}
        → Step state call given next → Run next calls answers last → Run state (call ∷ calls) (given ∷ answers) last
