-- Demand 3 across the boundary: calls of the exported reads and writes, raw and plaintext ones, one after another on two views' numbers,
-- each with one key, are a run in demand 3's sense. The steps are stated with `ReadCall`, `WriteCall`, `PlainReadCall` and `PlainWriteCall`,
-- which the contracts of the exported functions cite. Assumes nothing.
use Rattle.std.specs.Prelude.{ℕ, Ok, ⊤}
use mathlib.Core.{Path.◌≡◌, Bool.{false, ◌||◌, cond}, List.{List, map}}
use lib.{Dec.eqb, ListN.{length, get_or}}
use Rattle.layout.specs.declared.Layout.{Layout}
use Rattle.making.specs.Views.{plain_view, protected_view}
use Rattle.plaintext.specs.declared.KeyedView.{KeyedView}
use Rattle.boundary_numbers.specs.BoundaryNumbers.{view_from, viewed_left}
use Rattle.boundary_access.specs.BoundaryAccess.{ReadCall, WriteCall}
use Rattle.boundary_plaintext.specs.BoundaryPlaintext.{PlainReadCall, PlainWriteCall}
use Rattle.model.specs.{Model.{State, state_with, Reply}, Runs.Run, Sides.{Side, Turn, Both, at, each_with, OnSide}}
use Rattle.guarantees.specs.{Interleaving.views_of, Steps.Step}
use Rattle.header_claims.specs.SectorMap.{Sound}
use Rattle.access_claims.specs.{Table.{Operation, reads, writes, Form, raw, plaintext, Call}, Views.Nested}
use Rattle.answers.specs.Answers.{Answer, refuse, refuse_at}

-- a view's numbers, and its key
pub record KeyedNumbers : Type 0 where
  pub numbers : List ℕ
  pub key : List ℕ

-- those of both views, and the image
abbrev pub Numbers : Type 0
Numbers = State (Both KeyedNumbers)

-- a view has thirteen numbers
abbrev pub Thirteen : Numbers → Type 0
Thirteen both = (side : Side) → length (at side both.held).numbers ≡ 13

-- the view that they tell, and both
unfoldable pub keyed_from : KeyedNumbers → KeyedView
keyed_from one = record { view = view_from one.numbers; key = one.key }

abbrev pub told : Numbers → State (Both KeyedView)
told both = state_with (each_with (λ side. keyed_from)) both

-- what a caller has of an answer: the number returned, and what was left in the number passed for the sector
pub record Said : Type 0 where
  pub number : ℕ
  pub sector : List ℕ

-- the answer that they tell: 0 is an acceptance, and 16 and 18 are at the sector that was left
unfoldable pub answer_said : Said → Answer ⊤
answer_said said =
    cond (eqb said.number 0) (Ok tt)
    (cond (eqb said.number 16 || eqb said.number 18) (refuse_at said.number (get_or said.sector 0 0)) (refuse said.number))

-- the reply with that answer
unfoldable pub reply_told : Reply Said → Reply (Answer ⊤)
reply_told given = record { answer = answer_said given.answer; buffer = given.buffer }

-- what `ondristela_view_protected` and `ondristela_view_plain` store for an outer and a hidden layout, with two keys, and an image
unfoldable pub stored_for : Layout → Layout → List ℕ → List ℕ → List ℕ → List ℕ → List ℕ → Numbers
stored_for outer_layout hidden_layout outer_key hidden_key before other image =
    record {
      image = image;
      held =
          record {
            outer_one = record { numbers = viewed_left (protected_view outer_layout hidden_layout) before; key = outer_key };
            hidden_one = record { numbers = viewed_left (plain_view hidden_layout) other; key = hidden_key };
          };
    }

-- an exported call that keeps its contract, by its form and what it does, on a view's numbers, with some number passed for the sector;
-- the key is passed to a plaintext one, and stays
unfoldable pub KeepsNumberContract : Form → Operation → State KeyedNumbers → ℕ → ℕ → List ℕ → List ℕ → Reply Said → State KeyedNumbers → Type 0
KeepsNumberContract raw reads state first count buffer before given after =
    ReadCall state.held.numbers state.image first count buffer before given.answer.number given.buffer given.answer.sector
    × (after ≡ state)
KeepsNumberContract raw writes state first count buffer before given after =
    WriteCall state.held.numbers state.image first count buffer before given.answer.number after.image after.held.numbers
    given.answer.sector
    × (after.held.key ≡ state.held.key) × (given.buffer ≡ buffer)
KeepsNumberContract plaintext reads state first count buffer before given after =
    PlainReadCall state.held.numbers state.held.key state.image first count buffer before given.answer.number given.buffer
    given.answer.sector
    × (after ≡ state)
KeepsNumberContract plaintext writes state first count buffer before given after =
    PlainWriteCall state.held.numbers state.held.key state.image first count buffer before given.answer.number after.image
    after.held.numbers given.answer.sector
    × (after.held.key ≡ state.held.key) × (given.buffer ≡ buffer)

-- .. by a call as listed
abbrev pub KeepsNumberCall : State KeyedNumbers → Call → List ℕ → Reply Said → State KeyedNumbers → Type 0
KeepsNumberCall state call = KeepsNumberContract call.form call.operation state call.first call.count call.buffer

abbrev pub NumberStep : State KeyedNumbers → Call → Reply Said → State KeyedNumbers → Type 0
NumberStep state call given after = (before : List ℕ) × KeepsNumberCall state call before given after

-- the claim, from any numbers on
pub record CarriesRuns (numbers : Numbers) : Type 0 where
  -- every call is answered, whatever number is passed for the sector
  pub answered : (state : State KeyedNumbers) (call : Call) (before : List ℕ)
      → (given : Reply Said) × (after : State KeyedNumbers) × KeepsNumberCall state call before given after
  -- every list of calls has a sequence of such calls
  pub runs : (turns : List (Turn Call)) → (answers : List (Reply Said)) × (last : Numbers) × Run (OnSide NumberStep) numbers turns answers last
  -- and each is a run on the views that the numbers tell, with the answers that are told, and the same bytes and image
  pub is_run : Thirteen numbers → (turns : List (Turn Call)) (answers : List (Reply Said)) (last : Numbers)
      → Run (OnSide NumberStep) numbers turns answers last → Run (OnSide Step) (told numbers) turns (map reply_told answers) (told last)

-- where such runs begin: the numbers stored for the two views of demand 3, with their keys, tell its start
pub record BeginsRuns (outer_layout hidden_layout : Layout) (outer_key hidden_key : List ℕ) : Type 0 where
  pub start : Sound outer_layout → Sound hidden_layout → Nested outer_layout hidden_layout → (before other image : List ℕ)
      → told (stored_for outer_layout hidden_layout outer_key hidden_key before other image)
      ≡ views_of outer_layout hidden_layout outer_key hidden_key (record { image = image; held = record { outer_one = false; hidden_one = false } })
  pub thirteen : Sound outer_layout → Sound hidden_layout → Nested outer_layout hidden_layout → (before other image : List ℕ)
      → Thirteen (stored_for outer_layout hidden_layout outer_key hidden_key before other image)
