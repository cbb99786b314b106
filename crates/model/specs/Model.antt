-- The reference model of reads and writes on a view (RULES.md, The reference model), over any rules of its calls. It begins with an image
-- and a lock, and is shown nothing of what the code returns. Assumes nothing.
use Rattle.std.specs.Prelude.{ℕ}
use mathlib.Core.{Bool.{Bool, not, ◌&&◌, cond}, List.{List, [], ◌∷◌}}
use Rattle.std.specs.Prelude.{length}
use Rattle.model.specs.Sectors.{sector_at, lay, gather, piece_for}

-- the rules of a view's calls
pub record Rules (Call Lock Answer : Type 0) : Type 0 where
  -- a call's buffer as borrowed, whether it writes, and the host sectors that it covers, in order
  pub buffer : Call → List ℕ
  pub writes : Call → Bool
  pub hosts : Call → List ℕ
  -- its answer, by the lock and the image's length; whether that is an acceptance; and the lock after it
  pub judge : Call → Lock → ℕ → Answer
  pub accepts : Call → Answer → Bool
  pub lock_after : Call → Answer → Lock → Lock
  -- a piece of its buffer as a sector keeps it, and a sector's bytes as it reads them
  pub stored : Call → ℕ → List ℕ → List ℕ
  pub shown : Call → ℕ → List ℕ → List ℕ

-- an image, and what belongs to the view: in the model its lock
pub record State (Held : Type 0) : Type 0 where
  pub image : List ℕ
  pub held : Held

-- a state with something else for what is held
unfoldable pub state_with : {Held Other : Type 0} → (Held → Other) → State Held → State Other
state_with other state = record { image = state.image; held = other state.held }

-- what a call answers, and its buffer as the call left it
pub record Reply (Answer : Type 0) : Type 0 where
  pub answer : Answer
  pub buffer : List ℕ

module _ {Call Lock Answer : Type 0} (rules : Rules Call Lock Answer) where
  -- the answer to a call
  unfoldable pub judged : Call → State Lock → Answer
  judged call model = rules.judge call model.held (length model.image)

  -- its buffer after a call with this answer: an accepted read fills it with the covered sectors
  unfoldable pub buffer_after : Call → Answer → List ℕ → List ℕ
  buffer_after call answer image =
      cond (not (rules.writes call) && rules.accepts call answer)
      (gather (λ host. rules.shown call host (sector_at host image)) (rules.hosts call)) (rules.buffer call)

  -- the image after it: an accepted write lays its buffer into the covered sectors
  unfoldable pub image_after : Call → Answer → List ℕ → List ℕ
  image_after call answer image =
      cond (rules.writes call && rules.accepts call answer) (lay (rules.stored call) (rules.hosts call) (rules.buffer call) image) image

  -- .. and so one sector after it
  unfoldable pub sector_after : ℕ → Call → Answer → List ℕ → List ℕ
  sector_after host call answer before =
      cond (rules.writes call && rules.accepts call answer)
      (piece_for (rules.stored call) host (rules.hosts call) (rules.buffer call) before) before

  -- the reply to a call, and the model after it
  unfoldable pub reply : Call → State Lock → Reply Answer
  reply call model = record { answer = judged call model; buffer = buffer_after call (judged call model) model.image }

  unfoldable pub next : Call → State Lock → State Lock
  next call model =
      record {
        image = image_after call (judged call model) model.image;
        held = rules.lock_after call (judged call model) model.held;
      }

  -- the replies to a list of calls, and the model after it
  unfoldable pub replies : List Call → State Lock → List (Reply Answer)
  replies [] model = []
  replies (call ∷ calls) model = reply call model ∷ replies calls (next call model)

  unfoldable pub final : List Call → State Lock → State Lock
  final [] model = model
  final (call ∷ calls) model = final calls (next call model)

  -- a sector after a list of calls and their replies: the last accepted write that covers it, or as it began
  unfoldable pub contents : ℕ → List Call → List (Reply Answer) → List ℕ → List ℕ
  contents host [] answers before = before
  contents host (call ∷ calls) [] before = before
  contents host (call ∷ calls) (given ∷ answers) before = contents host calls answers (sector_after host call given.answer before)
