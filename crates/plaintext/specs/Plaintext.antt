-- What reads and writes of plaintext hand back and leave (RULES.md, Plaintext): they are judged as raw ones are, and each sector is
-- enciphered with its host sector's number for a tweak. What the contracts of `KeyedView::read` and `write` cite. Assumes nothing.
use Rattle.std.specs.Prelude.{ℕ, ◌+◌, ◌*◌, length, take, drop, ⊤}
use mathlib.Core.{Path.◌≡◌, Bool.cond, List.List}
use Rattle.fields.specs.Bytes.{overlay}
use Rattle.answers.specs.Answers.{is_accepted, Answer}
use Rattle.layout.specs.{Rules.sector_bytes, declared.Layout.Layout}
use Rattle.sector_map.specs.SectorMap.{first_sector}
use Rattle.judgement.specs.Offsets.{extent_start}
use Rattle.xts.specs.{Runs.in_units, Units.{enciphered, deciphered}}
use Rattle.view.specs.Outcomes.{view_read, view_write, after}
use Rattle.plaintext.specs.declared.KeyedView.{KeyedView}
use Rattle.view.specs.declared.Outcome.{Outcome}

-- the buffer after a read: the extent's sectors, each deciphered, or as it was
unfoldable pub plain_filled_by : Answer ⊤ → Layout → List ℕ → List ℕ → ℕ → ℕ → List ℕ → List ℕ
plain_filled_by answer layout key image first count buffer =
    cond (is_accepted answer)
    (in_units (deciphered key) count (first_sector layout + first) (take (count * sector_bytes) (drop (extent_start layout first) image))) buffer

-- the image after a write: the buffer's sectors, each enciphered, laid over the extent's bytes, or as it was
unfoldable pub plain_written_by : Answer ⊤ → Layout → List ℕ → List ℕ → ℕ → ℕ → List ℕ → List ℕ
plain_written_by answer layout key image first count buffer =
    cond (is_accepted answer) (overlay (extent_start layout first) (in_units (enciphered key) count (first_sector layout + first) buffer) image) image

module _ (keyed : KeyedView) (image : List ℕ) (first count : ℕ) (buffer : List ℕ) where
  -- the answers to a read and to a write: those of raw ones
  abbrev pub plain_read_answer : Answer ⊤
  plain_read_answer = view_read keyed.view (length image) first count (length buffer)

  abbrev pub plain_write_answer : Answer ⊤
  plain_write_answer = view_write keyed.view (length image) first count (length buffer)

  -- what a read leaves: the same view with its key, its answer, and the buffer
  pub record PlainReadPost (outcome : Outcome KeyedView ⊤) (filled : List ℕ) : Type 0 where
    pub same : outcome.view ≡ keyed
    pub answers : outcome.answer ≡ plain_read_answer
    pub fills : filled ≡ plain_filled_by plain_read_answer keyed.view.layout keyed.key image first count buffer

  -- what a write leaves: the view, locked by 18, with its key, its answer, and the image
  pub record PlainWritePost (outcome : Outcome KeyedView ⊤) (written : List ℕ) : Type 0 where
    pub back : outcome.view ≡ record { view = after keyed.view plain_write_answer; key = keyed.key }
    pub answers : outcome.answer ≡ plain_write_answer
    pub writes : written ≡ plain_written_by plain_write_answer keyed.view.layout keyed.key image first count buffer
