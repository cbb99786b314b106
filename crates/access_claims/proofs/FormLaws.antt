-- The forms in which sectors keep and show bytes: each keeps a sector's length, and raw units one behind the other are the bytes themselves.
-- Assumes nothing.
use Prim.Native.Nat.{ℕ, zero, suc, ◌+◌, ◌*◌}
use native.Mathlib.Omega.{arith}
use mathlib.Core.{Path.{◌≡◌, refl}, List.List}
use lib.{ListN.{take, drop}, Seq.take-add}
use Rattle.xts.specs.Runs.{in_units}
use Rattle.xts.proofs.UnitLaws.{length_converted}
use Rattle.model.proofs.Lawful.{Sized}
use Rattle.access_claims.specs.{ReferenceModel.{stored_as, shown_as}, Table.{Form, raw, plaintext}}

pub stored_sized_lem : (form : Form) (key : List ℕ) → Sized (stored_as form key)
unfolding stored_as
stored_sized_lem raw key host piece size = size
stored_sized_lem plaintext key host piece size = search length_converted

pub shown_sized_lem : (form : Form) (key : List ℕ) → Sized (shown_as form key)
unfolding shown_as
shown_sized_lem raw key host bytes size = size
shown_sized_lem plaintext key host bytes size = search length_converted

-- bytes as they are given
abbrev pub as_given : ℕ → List ℕ → List ℕ
as_given host bytes = bytes

pub in_units_given : (n host : ℕ) (bytes : List ℕ) → in_units as_given n host bytes ≡ take (n * 512) bytes
unfolding in_units
in_units_given zero host bytes = refl
in_units_given (suc n) host bytes =
    let size : suc n * 512 ≡ 512 + n * 512 = omega arith in
    rw (in_units_given n (suc host) (drop 512 bytes), size, take-add 512 (n * 512) bytes)
