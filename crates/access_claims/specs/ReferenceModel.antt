-- The rules by which the reference model goes (RULES.md, The reference model), for a view of a layout and what it protects, with a key: it
-- judges by the table of refusals and moves bytes sector by sector over the sector map, raw ones as they are and plaintext enciphered, with
-- the sector's number in the host for a tweak. Assumes nothing.
use Rattle.std.specs.Prelude.{ℕ, ◌*◌, leb, ltb, eqb, Ok, Err, Option, ⊤, Some, None}
use mathlib.Core.{Bool.{Bool, true, false, ◌&&◌, cond}, List.List}
use Rattle.answers.specs.Answers.{is_accepted, Answer}
use Rattle.layout.specs.declared.Layout.{Layout}
use Rattle.sector_map.specs.SectorMap.{host_sector}
use Rattle.xts.specs.Units.{enciphered, deciphered}
use Rattle.model.specs.Model.{Rules}
use Rattle.access_claims.specs.Table.{Operation, reads, writes, Form, raw, plaintext, Call, first_of, tabled, covers}
use Rattle.protection.specs.Protection.{Protection}

-- a call writes
unfoldable pub is_write : Operation → Bool
is_write reads = false
is_write writes = true

-- the lock after an answer: 18 closes it
unfoldable pub lock_left : Answer ⊤ → Bool → Bool
lock_left (Ok done) locked = locked
lock_left (Err refusal) locked = cond (eqb refusal.number 18) true locked

-- a host sector lies in the protected range
unfoldable pub in_range : Protection → ℕ → Bool
in_range None host = false
in_range (Some (first, end)) host = leb first (host * 512) && ltb (host * 512) end

-- the host sector that the map gives does
unfoldable pub is_protected : Protection → Answer ℕ → Bool
is_protected protection (Ok host) = in_range protection host
is_protected protection (Err refusal) = false

-- the first sector of an extent whose host sector does, if one has
unfoldable pub first_protected : Layout → Protection → ℕ → ℕ → Option ℕ
first_protected layout protection first count = first_of (λ user. is_protected protection (host_sector layout user)) first count

-- the host sectors of a call
unfoldable pub hosts_of : Layout → Call → List ℕ
hosts_of layout call = covers layout call.first call.count

-- a piece of a buffer as a host sector keeps it, by the form of the call and the key
unfoldable pub stored_as : Form → (key : List ℕ) → (host : ℕ) → List ℕ → List ℕ
stored_as raw key host piece = piece
stored_as plaintext key host piece = enciphered key host piece

-- a host sector's bytes as a call reads them
unfoldable pub shown_as : Form → (key : List ℕ) → (host : ℕ) → List ℕ → List ℕ
shown_as raw key host bytes = bytes
shown_as plaintext key host bytes = deciphered key host bytes

-- the rules, with a key that stays
unfoldable pub view_rules : Layout → Protection → (key : List ℕ) → Rules Call Bool (Answer ⊤)
view_rules layout protection key =
    record {
      buffer = λ call. call.buffer;
      writes = λ call. is_write call.operation;
      hosts = hosts_of layout;
      judge = λ call locked image_size. tabled layout locked (first_protected layout protection call.first call.count) image_size call;
      accepts = λ call. is_accepted;
      lock_after = λ call. lock_left;
      stored = λ call. stored_as call.form key;
      shown = λ call. shown_as call.form key;
    }
