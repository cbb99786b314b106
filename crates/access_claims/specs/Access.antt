-- Reads and writes of raw bytes on any view, made-up ones too (RULES.md, Reads and writes): 11 exactly for an unsound view, and else the
-- table of refusals, with 18 over the host sectors that the map gives; and what each call leaves, sector by sector, whatever the key.
-- `read_answer`, `write_answer`, `filled_by`, `written_by`, `ReadPost` and `WritePost` are the definitions that the contracts of `access` and
-- `view` cite. Assumes nothing.
use Rattle.std.specs.Prelude.{ℕ, length, ⊤}
use mathlib.Core.{Path.◌≡◌, Bool.Bool, List.List}
use Rattle.judgement.specs.Judging.{read_answer, write_answer}
use Rattle.access.specs.Moving.{filled_by, written_by}
use Rattle.view.specs.Outcomes.{ReadPost, WritePost}
use Rattle.view.specs.declared.{Outcome.Outcome, View.View}
use Rattle.model.specs.Model.{Rules, buffer_after, image_after}
use Rattle.access_claims.specs.{ReferenceModel.{lock_left, view_rules}, Table.{Operation, reads, writes, Form, raw, Call}, Views.SoundView}
use Rattle.answers.specs.Answers.{Answer, refuse}

module _ (view : View) (image : List ℕ) (first count : ℕ) (buffer : List ℕ) where
  -- the call in a form, and the rules of its view with a key
  abbrev pub call : Form → Operation → Call
  call form operation = record { form = form; operation = operation; first = first; count = count; buffer = buffer }

  abbrev pub rules : List ℕ → Rules Call Bool (Answer ⊤)
  rules = view_rules view.layout view.protection

  -- the answer to a read, and to a write
  abbrev pub read_by : Answer ⊤
  read_by = read_answer view.layout view.protection (length image) first count (length buffer)

  abbrev pub write_by : Answer ⊤
  write_by = write_answer view.layout view.protection view.locked (length image) first count (length buffer)

  -- the buffer after the read, and the image after the write
  abbrev pub filled_with : List ℕ
  filled_with = filled_by read_by view.layout image first count buffer

  abbrev pub written_with : List ℕ
  written_with = written_by write_by view.layout image first buffer

  -- the claim
  pub record AccessesByTable : Type 0 where
    -- the answer
    pub unsound_read : (SoundView view → ⊥) → read_by ≡ refuse 11
    pub unsound_write : (SoundView view → ⊥) → write_by ≡ refuse 11
    pub read_tabled : (key : List ℕ) → SoundView view → read_by ≡ (rules key).judge (call raw reads) view.locked (length image)
    pub write_tabled : (key : List ℕ) → SoundView view → write_by ≡ (rules key).judge (call raw writes) view.locked (length image)
    -- the bytes: a read's buffer and a write's image, the same for every key
    pub filled : (key : List ℕ) → filled_with ≡ buffer_after (rules key) (call raw reads) read_by image
    pub written : (key : List ℕ) → written_with ≡ image_after (rules key) (call raw writes) write_by image
    -- what the calls of the view hand back: the answer, and the view, which only a write's 18 changes
    pub read_back : (outcome : Outcome View ⊤) (after : List ℕ) → ReadPost view image first count buffer outcome after
        → (outcome.answer ≡ read_by) × (outcome.view ≡ view) × (after ≡ filled_with)
    pub write_back : (outcome : Outcome View ⊤) (after : List ℕ) → WritePost view image first count buffer outcome after
        → (outcome.answer ≡ write_by)
        × (outcome.view ≡ record { layout = view.layout; protection = view.protection; locked = lock_left write_by view.locked })
        × (after ≡ written_with)
