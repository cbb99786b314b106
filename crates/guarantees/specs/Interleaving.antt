-- Demand 3 (RULES.md, Interleavings): one claim over two lists of calls, raw and plaintext ones mixed, on an outer view that protects the
-- hidden range and on that hidden view, each with one key, over one image. A run's steps are calls that keep their contracts; the reference
-- model is that of `model`, by the rules of the two views. The keys may be any lists of numbers, and where all calls are raw they play no
-- part. Assumes nothing.
use Rattle.std.specs.Prelude.{ℕ, Ok, ⊤, None}
use mathlib.Core.{Path.◌≡◌, Bool.Bool, List.{List, ◌∷◌, ◌++◌, map}}
use Rattle.layout.specs.declared.Layout.{Layout}
use Rattle.view.specs.declared.View.{View}
use Rattle.plaintext.specs.declared.KeyedView.{KeyedView}
use Rattle.model.specs.{Model.{Rules, State, state_with, Reply, replies, final, contents}, Runs.Run, Sectors.{sector_at, gather}}
use Rattle.model.specs.Sides.{Side, outer, hidden, Turn, Interleaves, Both, at, each_with, OnSide, sided, by_side, unprotected}
use Rattle.access_claims.specs.{InTheWay.NamesFirst, ReferenceModel.{in_range, hosts_of, shown_as, view_rules}}
use Rattle.header_claims.specs.SectorMap.{Sound}
use Rattle.guarantees.specs.Steps.{Step}
use Rattle.access_claims.specs.{Table.{reads, Call}, Views.{area, plain, protecting, Nested}}
use Rattle.answers.specs.Answers.{Answer}
use Rattle.protection.specs.Protection.{Protection}

module _ (outer_layout hidden_layout : Layout) (outer_key hidden_key : List ℕ) where
  -- the layout of a side
  unfoldable pub side_layout : Side → Layout
  side_layout outer = outer_layout
  side_layout hidden = hidden_layout

  -- its view, with its lock: the protected one made from the two layouts, or the plain one of the hidden layout
  unfoldable pub side_view : Side → Bool → View
  side_view outer locked = protecting outer_layout hidden_layout locked
  side_view hidden locked = plain hidden_layout locked

  -- its protected range: the outer view's is the hidden data area, the hidden view has none
  unfoldable pub side_protection : Side → Protection
  side_protection outer = area hidden_layout
  side_protection hidden = None

  -- its key
  unfoldable pub side_key : Side → List ℕ
  side_key outer = outer_key
  side_key hidden = hidden_key

  -- its view, with its lock and its key
  unfoldable pub side_keyed : Side → Bool → KeyedView
  side_keyed side locked = record { view = side_view side locked; key = side_key side }

  -- its rules
  unfoldable pub side_rules : Side → Rules Call Bool (Answer ⊤)
  side_rules side = view_rules (side_layout side) (side_protection side) (side_key side)

  -- the model's rules
  abbrev pub both_rules : Rules (Turn Call) (Both Bool) (Answer ⊤)
  both_rules = sided side_rules

  -- both views with a model's locks, and with their keys, over its image
  abbrev pub views_of : State (Both Bool) → State (Both KeyedView)
  views_of model = state_with (each_with side_keyed) model

  -- an outer call's reply, but for what a read gives of the protected sectors
  abbrev pub outside_protected : Call × Reply (Answer ⊤) → Answer ⊤ × List (List ℕ)
  outside_protected = unprotected (side_rules outer) (in_range (area hidden_layout))

  -- from a model's start: an image of any length and content, and each lock open or closed
  module _ (model : State (Both Bool)) where
    -- a run is the reference model's: replies, image and locks; layouts, ranges and keys are as they began
    pub record Agrees (turns : List (Turn Call)) (answers : List (Reply (Answer ⊤))) (last : State (Both KeyedView)) : Type 0 where
      pub same_replies : answers ≡ replies both_rules turns model
      pub same_image : last.image ≡ (final both_rules turns model).image
      pub same_views : last.held ≡ each_with side_keyed (final both_rules turns model).held

    -- a run from there: each call finds its view and the image as the calls before it left them
    abbrev pub Runs : List (Turn Call) → List (Reply (Answer ⊤)) → State (Both KeyedView) → Type 0
    Runs turns answers last = Run (OnSide Step) (views_of model) turns answers last

    -- two runs agree, but for what outer reads give of protected sectors
    pub record Independent (turns others : List (Turn Call)) (answers other_answers : List (Reply (Answer ⊤))) (last other_last : State (Both KeyedView)) : Type 0 where
      pub same_end : last ≡ other_last
      pub hidden_replies : map (λ r. r.1) (at hidden (by_side turns answers)) ≡ map (λ r. r.1) (at hidden (by_side others other_answers))
      pub outer_replies : map outside_protected (at outer (by_side turns answers)) ≡ map outside_protected (at outer (by_side others other_answers))

    -- the claim, for any two lists
    pub record Interleaved (xs ys : List Call) : Type 0 where
      -- every interleaving has a run
      pub runs : (turns : List (Turn Call)) → Interleaves xs ys turns → (answers : List (Reply (Answer ⊤))) × (last : State (Both KeyedView)) × Runs turns answers last
      -- every run is the reference model's
      pub agrees : (turns : List (Turn Call)) (answers : List (Reply (Answer ⊤))) (last : State (Both KeyedView)) → Interleaves xs ys turns
          → Runs turns answers last → Agrees turns answers last
      -- each sector ends as the last accepted write that covers it left it, its raw bytes or its plaintext enciphered, or as it began
      pub last_write : (turns : List (Turn Call)) (answers : List (Reply (Answer ⊤))) (last : State (Both KeyedView)) → Interleaves xs ys turns
          → Runs turns answers last → (host : ℕ) → sector_at host last.image ≡ contents both_rules host turns answers (sector_at host model.image)
      -- an accepted read gives each sector as the accepted writes before it left it, or as it began: a raw one its bytes, a plaintext one its
      -- bytes deciphered
      pub reads_left : (before : List (Turn Call)) (turn : Turn Call) (after : List (Turn Call)) (answers : List (Reply (Answer ⊤))) (given : Reply (Answer ⊤))
          (middle next : State (Both KeyedView)) → Interleaves xs ys (before ++ (turn ∷ after))
          → Runs before answers middle → OnSide Step middle turn given next
          → turn.call.operation ≡ reads → given.answer ≡ Ok tt
          → given.buffer
          ≡ gather
          (λ host. shown_as turn.call.form (side_key turn.side) host (contents both_rules host before answers (sector_at host model.image)))
          (hosts_of (side_layout turn.side) turn.call)
      -- a refused call names the first sector in its way: of 16 the larger of u and V/512, of 18, which only outer calls are refused by, the
      -- larger of u and the hidden volume's first sector as the outer view counts it
      pub in_the_way : (before : List (Turn Call)) (turn : Turn Call) (after : List (Turn Call)) (answers : List (Reply (Answer ⊤))) (given : Reply (Answer ⊤))
          (middle next : State (Both KeyedView)) → Interleaves xs ys (before ++ (turn ∷ after))
          → Runs before answers middle → OnSide Step middle turn given next
          → NamesFirst (side_layout turn.side) (side_protection turn.side) turn.call.first given.answer
      -- any two interleavings end alike, and give each list the same, but for what outer reads give of protected sectors
      pub independent : (turns others : List (Turn Call)) (answers other_answers : List (Reply (Answer ⊤))) (last other_last : State (Both KeyedView))
          → Interleaves xs ys turns → Interleaves xs ys others → Runs turns answers last → Runs others other_answers other_last
          → Independent turns others answers other_answers last other_last

-- demand 3: for any two sound layouts that nest, and any two keys
pub record Demand3 (outer_layout hidden_layout : Layout) (outer_key hidden_key : List ℕ) : Type 0 where
  pub holds : Sound outer_layout → Sound hidden_layout → Nested outer_layout hidden_layout
      → (model : State (Both Bool)) (xs ys : List Call) → Interleaved outer_layout hidden_layout outer_key hidden_key model xs ys
