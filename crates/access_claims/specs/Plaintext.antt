-- Reads and writes of plaintext on any view with a key, made-up ones too (RULES.md, Plaintext): they answer as raw ones on the same view do,
-- and leave the view so, across the boundary too; the bytes are the reference model's, sector by sector, and what was written is read back.
-- `PlainReadPost`, `PlainWritePost`, `PlainReadCall` and `PlainWriteCall` are the definitions that the contracts of `plaintext` and
-- `boundary_plaintext` cite. Assumes nothing.
use Rattle.std.specs.Prelude.{ℕ, length, Ok, ⊤}
use mathlib.Core.{Path.◌≡◌, Bool.Bool, List.List}
use Rattle.bits.specs.Bits.{Bytes}
use Rattle.view.specs.{Outcomes.{view_filled, view_written, ReadPost, WritePost}, declared.Outcome.Outcome}
use Rattle.plaintext.specs.Plaintext.{plain_filled_by, plain_written_by, PlainReadPost, PlainWritePost}
use Rattle.plaintext.specs.declared.KeyedView.{KeyedView}
use Rattle.boundary_numbers.specs.BoundaryNumbers.{view_from}
use Rattle.boundary_access.specs.BoundaryAccess.{ReadCall, WriteCall}
use Rattle.boundary_plaintext.specs.BoundaryPlaintext.{PlainReadCall, PlainWriteCall}
use Rattle.model.specs.Model.{Rules, buffer_after, image_after}
use Rattle.access_claims.specs.{Access.{call, rules, read_by, write_by}, Enciphering.IsBytes, ReferenceModel.lock_left}
use Rattle.access_claims.specs.{Table.{Operation, reads, writes, plaintext, Call}, Views.SoundView}
use Rattle.answers.specs.Answers.{Answer}
use Rattle.view.specs.declared.View.{View}

module _ (keyed : KeyedView) (image : List ℕ) (first count : ℕ) (buffer : List ℕ) where
  -- the call, and the rules of its view with the view's key
  abbrev pub plain_call : Operation → Call
  plain_call = call keyed.view image first count buffer plaintext

  abbrev pub keyed_rules : Rules Call Bool (Answer ⊤)
  keyed_rules = rules keyed.view image first count buffer keyed.key

  -- the answers to a raw read and to a raw write
  abbrev pub raw_read : Answer ⊤
  raw_read = read_by keyed.view image first count buffer

  abbrev pub raw_write : Answer ⊤
  raw_write = write_by keyed.view image first count buffer

  -- the buffer after the read, and the image after the write
  abbrev pub plain_filled : List ℕ
  plain_filled = plain_filled_by raw_read keyed.view.layout keyed.key image first count buffer

  abbrev pub plain_written : List ℕ
  plain_written = plain_written_by raw_write keyed.view.layout keyed.key image first count buffer

  -- the claim
  pub record PlaintextByTable : Type 0 where
    -- the answers, those of raw calls, are the table's for plaintext ones too (an unsound view's are 11)
    pub read_tabled : SoundView keyed.view → raw_read ≡ keyed_rules.judge (plain_call reads) keyed.view.locked (length image)
    pub write_tabled : SoundView keyed.view → raw_write ≡ keyed_rules.judge (plain_call writes) keyed.view.locked (length image)
    -- the bytes: a read's buffer, deciphered, and a write's image, enciphered
    pub filled : plain_filled ≡ buffer_after keyed_rules (plain_call reads) raw_read image
    pub written : plain_written ≡ image_after keyed_rules (plain_call writes) raw_write image
    -- what the calls hand back: the answer of a raw call, and the view, which only a write's 18 changes, with its key
    pub read_back : (outcome : Outcome KeyedView ⊤) (after : List ℕ) → PlainReadPost keyed image first count buffer outcome after
        → (outcome.answer ≡ raw_read) × (outcome.view ≡ keyed) × (after ≡ plain_filled)
    pub write_back : (outcome : Outcome KeyedView ⊤) (after : List ℕ) → PlainWritePost keyed image first count buffer outcome after
        → (outcome.answer ≡ raw_write)
        × (outcome.view
        ≡ record {
          view = record { layout = keyed.view.layout; protection = keyed.view.protection; locked = lock_left raw_write keyed.view.locked };
          key = keyed.key;
        })
        × (after ≡ plain_written)
    -- a raw call in its place hands back the same answer and the same view, so that raw calls go on as before
    pub read_alike : (outcome : Outcome KeyedView ⊤) (other : Outcome View ⊤) (after other_after : List ℕ)
        → PlainReadPost keyed image first count buffer outcome after → ReadPost keyed.view image first count buffer other other_after
        → (outcome.answer ≡ other.answer) × (outcome.view.view ≡ other.view)
    pub write_alike : (outcome : Outcome KeyedView ⊤) (other : Outcome View ⊤) (after other_after : List ℕ)
        → PlainWritePost keyed image first count buffer outcome after → WritePost keyed.view image first count buffer other other_after
        → (outcome.answer ≡ other.answer) × (outcome.view.view ≡ other.view)

  -- the claim for a write and a read of the same sectors behind it: what was written is read, whatever is passed to be filled
  pub record GivesBack : Type 0 where
    pub reads_written : IsBytes 64 keyed.key → Bytes buffer → raw_write ≡ Ok tt → (room : List ℕ) → length room ≡ length buffer
        → (read_by keyed.view plain_written first count room ≡ Ok tt)
        × (plain_filled_by (Ok tt) keyed.view.layout keyed.key plain_written first count room ≡ buffer)

-- the claim for the exported calls on any numbers: but for the bytes, each is a raw one, with its number, its sector and the view's numbers
pub record TellsAsRaw (view key image : List ℕ) (first count : ℕ) (buffer sector_before : List ℕ) : Type 0 where
  pub is_read : (number : ℕ) (filled sector : List ℕ) → PlainReadCall view key image first count buffer sector_before number filled sector
      → ReadCall view image first count buffer sector_before number (view_filled (view_from view) image first count buffer) sector
  pub is_write : (number : ℕ) (written left sector : List ℕ) → PlainWriteCall view key image first count buffer sector_before number written left sector
      → WriteCall view image first count buffer sector_before number (view_written (view_from view) image first count buffer) left sector
