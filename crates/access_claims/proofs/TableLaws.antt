-- The table of refusals: what an acceptance says of a call, and what an answer leaves of the lock.
-- Assumes nothing.
use Prim.Native.Nat.{ℕ, ◌+◌, ◌*◌, ◌/◌, ◌≤◌}
use mathlib.Core.{Path.{◌≡◌, refl, sym}, Bool.{Bool, true, false, ◌&&◌, true≢false}, List.List}
use lib.{Dec.{leb, eqb}, ListN.length}
use borrow.Author.Tests.{leb-true, eqb-true}
use Rattle.answers.specs.Answers.{is_accepted, locked_after, Answer, refuse, refuse_at, refusal_number}
use Rattle.layout.specs.declared.Layout.{Layout}
use Rattle.sector_map.specs.SectorMap.{sectors}
use Rattle.access_claims.specs.ReferenceModel.{is_write, lock_left}
use Rattle.access_claims.specs.Table.{Operation, reads, writes, Form, Call, first_past, is_whole, check, unless_at, later, tabled}
use Rattle.std.specs.Prelude.{Ok, Err, Some, None, Option, ⊤}

-- an extent inside a layout, with an image and a buffer of the right lengths
pub record Fits (layout : Layout) (image_size : ℕ) (call : Call) : Type 0 where
  pub whole : image_size ≡ layout.host_size
  pub sized : length call.buffer ≡ call.count * 512
  pub inside : call.first + call.count ≤ sectors layout

-- the checks of every call on a sound view by what their tests say, and then the later ones
abbrev in_order : ℕ → Bool → Bool → Bool → Bool → Bool → Answer ⊤ → Answer ⊤
in_order past sizes counts buffers wholes extents rest =
    check (refuse 13) sizes
    (check (refuse 14) counts (check (refuse 15) buffers (check (refuse 20) wholes (check (refuse_at 16 past) extents rest))))

in_order_accepted : (past : ℕ) (a b c d e : Bool) (rest : Answer ⊤) → is_accepted (in_order past a b c d e rest) ≡ true
    → (a ≡ true) × (c ≡ true) × (e ≡ true) × (is_accepted rest ≡ true)
unfolding is_accepted
in_order_accepted past true true true true true rest k = (refl, refl, refl, k)
in_order_accepted past true true true true false rest k = absurd (true≢false (sym k))
in_order_accepted past true true true false e rest k = absurd (true≢false (sym k))
in_order_accepted past true true false d e rest k = absurd (true≢false (sym k))
in_order_accepted past true false c d e rest k = absurd (true≢false (sym k))
in_order_accepted past false b c d e rest k = absurd (true≢false (sym k))

-- what a read answers leaves the lock
in_order_lock : (past : ℕ) (a b c d e locked : Bool) → lock_left (in_order past a b c d e (Ok tt)) locked ≡ locked
unfolding lock_left
in_order_lock past true true true true true locked = refl
in_order_lock past true true true true false locked = refl
in_order_lock past true true true false e locked = refl
in_order_lock past true true false d e locked = refl
in_order_lock past true false c d e locked = refl
in_order_lock past false b c d e locked = refl

module _ (layout : Layout) (call : Call) (locked : Bool) (touched : Option ℕ) (image_size : ℕ) where
  pub tabled_accepted : is_accepted (tabled layout locked touched image_size call) ≡ true
      → Fits layout image_size call × (is_accepted (later call.operation locked touched) ≡ true)
  unfolding tabled sectors
  tabled_accepted e =
      let kept =
      in_order_accepted (first_past layout call.first call.count) (eqb image_size layout.host_size) (leb call.count 128)
      (eqb (length call.buffer) (call.count * 512)) (is_whole layout call.first && is_whole layout call.count)
      (leb (call.first + call.count) (layout.data_size / 512)) (later call.operation locked touched) e in
      (record { whole = eqb-true _ _ kept.0; sized = eqb-true _ _ kept.1; inside = leb-true _ _ kept.2 }, kept.3)

-- an accepted write touches no protected range
pub later_untouched : (operation : Operation) (locked : Bool) (touched : Option ℕ) → is_write operation ≡ true
    → is_accepted (later operation locked touched) ≡ true → touched ≡ None
unfolding is_write is_accepted later unless_at
later_untouched reads locked touched w e = absurd (true≢false (sym w))
later_untouched writes false None w e = refl
later_untouched writes false (Some sector) w e = absurd (true≢false (sym e))
later_untouched writes true touched w e = absurd (true≢false (sym e))

-- a read leaves the lock
pub read_lock : (layout : Layout) (form : Form) (first count : ℕ) (buffer : List ℕ) (locked : Bool) (touched : Option ℕ) (image_size : ℕ)
    → lock_left (tabled layout locked touched image_size (record { form = form; operation = reads; first = first; count = count; buffer = buffer })) locked
    ≡ locked
unfolding tabled later
read_lock layout form first count buffer locked touched image_size =
    in_order_lock (first_past layout first count) (eqb image_size layout.host_size) (leb count 128) (eqb (length buffer) (count * 512))
    (is_whole layout first && is_whole layout count) (leb (first + count) (layout.data_size / 512)) locked

-- the table's lock is that of a view after a write
pub lock_left_lem : (answer : Answer ⊤) (locked : Bool) → lock_left answer locked ≡ locked_after locked (refusal_number answer)
unfolding lock_left locked_after refusal_number
lock_left_lem (Ok done) locked = refl
lock_left_lem (Err refusal) locked = refl
