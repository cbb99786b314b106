-- Where every step is the model's, so is every run, and what holds of the model holds of it. Assumes nothing.
use Prim.Native.Nat.{ℕ}
use mathlib.Core.{Path.{◌≡◌, refl, sym, ap, ap₂, ◌∙◌, subst}, Bool.{true, false}, List.{List, [], ◌∷◌, map}}
use Rattle.model.specs.Sectors.{sector_at, gather}
use Rattle.model.specs.Model.{Rules, State, state_with, Reply, reply, next, replies, final, contents}
use Rattle.model.specs.Runs.{Run, done, step}
use Rattle.model.proofs.CallLaws.{last_write_lem, reads_left_lem}
use Rattle.model.proofs.Lawful.{Lawful}

-- where every call has a step from every state, every list of calls has a run
pub run_exists : {State Call Given : Type 0} (Step : State → Call → Given → State → Type 0)
    → ((state : State) (call : Call) → (given : Given) × (after : State) × Step state call given after)
    → (state : State) (calls : List Call) → (answers : List Given) × (last : State) × Run Step state calls answers last
run_exists Step exists state [] = ([], state, done)
run_exists Step exists state (call ∷ calls) =
    let one = exists state call in
    let rest = run_exists Step exists one.1 calls in
    (one.0 ∷ rest.0, rest.1, step one.2 rest.2)

-- where every step is one of another kind, as long as something holds of the state, so is every run
pub run_carries : {State Other Call Given Told : Type 0} (Step : State → Call → Given → State → Type 0) (Step' : Other → Call → Told → Other → Type 0)
    (become : State → Other) (tell : Given → Told) (Holds : State → Type 0)
    → ((state after : State) (call : Call) (given : Given) → Holds state → Step state call given after
    → Step' (become state) call (tell given) (become after) × Holds after)
    → {state last : State} {calls : List Call} {answers : List Given} → Holds state → Run Step state calls answers last
    → Run Step' (become state) calls (map tell answers) (become last)
run_carries Step Step' become tell Holds carries h done = done
run_carries Step Step' become tell Holds carries h (step {state = state} {next = next} {call = call} {given = given} one rest) =
    let first = carries state next call given h one in step first.0 (run_carries Step Step' become tell Holds carries first.1 rest)

module _ {Call Lock Answer Held : Type 0} where
  -- a step is the model's: it gives the model's reply, and leaves the model's next state
  abbrev pub Agrees : Rules Call Lock Answer → (Lock → Held) → Call → State Lock → Reply Answer → State Held → Type 0
  Agrees rules view call model given after = (given ≡ reply rules call model) × (after ≡ state_with view (next rules call model))

  -- .. and so is every step from a state of the model
  abbrev pub Models : Rules Call Lock Answer → (Lock → Held) → (State Held → Call → Reply Answer → State Held → Type 0) → Type 0
  Models rules view Step =
      (call : Call) (model : State Lock) (given : Reply Answer) (after : State Held)
      → Step (state_with view model) call given after → Agrees rules view call model given after

module _ {Call Lock Answer Held : Type 0} (rules : Rules Call Lock Answer) (view : Lock → Held)
    (Step : State Held → Call → Reply Answer → State Held → Type 0) (models : Models rules view Step) where
  run_agrees_from : {state last : State Held} {calls : List Call} {answers : List (Reply Answer)} → Run Step state calls answers last
      → (model : State Lock) → state ≡ state_with view model
      → (answers ≡ replies rules calls model) × (last ≡ state_with view (final rules calls model))
  unfolding replies final
  run_agrees_from done model e = (refl, e)
  run_agrees_from (step {next = after} {call = call} {given = given} one rest) model e =
      let first = models call model given after (subst (λ state. Step state call given after) e one) in
      let others = run_agrees_from rest (next rules call model) first.1 in
      (ap₂ ◌∷◌ first.0 others.0, others.1)

  pub run_agrees : (model : State Lock) {last : State Held} {calls : List Call} {answers : List (Reply Answer)}
      → Run Step (state_with view model) calls answers last
      → (answers ≡ replies rules calls model) × (last ≡ state_with view (final rules calls model))
  run_agrees model run = run_agrees_from run model refl

  module _ (lawful : Lawful rules) (model : State Lock) {last : State Held} {calls : List Call} {answers : List (Reply Answer)}
      (run : Run Step (state_with view model) calls answers last) where
    pub run_last_write : (host : ℕ) → sector_at host last.image ≡ contents rules host calls answers (sector_at host model.image)
    unfolding state_with
    run_last_write host =
        let same = run_agrees model run in
        ap (λ (state : State Held). sector_at host state.image) same.1
        ∙ last_write_lem rules lawful calls model host
        ∙ ap (λ (list : List (Reply Answer)). contents rules host calls list (sector_at host model.image)) (sym same.0)

    -- a read behind the run
    pub run_reads_left : (call : Call) (given : Reply Answer) (after : State Held) → Step last call given after
        → rules.writes call ≡ false → rules.accepts call given.answer ≡ true
        → given.buffer ≡ gather (λ host. rules.shown call host (contents rules host calls answers (sector_at host model.image))) (rules.hosts call)
    run_reads_left call given after one is_read accepted =
        let same = run_agrees model run in
        let ended = final rules calls model in
        let told = (models call ended given after (subst (λ state. Step state call given after) same.1 one)).0 in
        ap (λ (r : Reply Answer). r.buffer) told
        ∙ reads_left_lem rules lawful calls call model is_read (sym (ap (λ (r : Reply Answer). rules.accepts call r.answer) told) ∙ accepted)
        ∙ ap
        (λ (list : List (Reply Answer)).
        gather (λ host. rules.shown call host (contents rules host calls list (sector_at host model.image))) (rules.hosts call))
        (sym same.0)
