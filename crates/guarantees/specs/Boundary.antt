-- The boundary for C and Rust: what each number returned tells, in which order a layout's and a view's numbers stand, and what is stored.
-- The definitions are those that the contracts of `ondristela` and `ondristela_c`, and of the calls below them, cite. Assumes nothing.
use Rattle.std.specs.Prelude.{ℕ, ◌+◌, ◌*◌, ◌≤◌, Ok, Err, ⊤, Some, None}
use mathlib.Core.{Path.◌≡◌, Logic.◌↔◌, Bool.{not, cond}, List.{List, [], ◌∷◌, ◌++◌}}
use lib.{Dec.eqb, ListN.{length, take}}
use Rattle.layout.specs.declared.Layout.{Layout}
use Rattle.locations.specs.Locations.{located}
use Rattle.opening.specs.Opening.{opened}
use Rattle.sector_map.specs.SectorMap.{host_sector, user_sector}
use Rattle.tweaks.specs.Tweaks.{tweak_of}
use Rattle.view.specs.Outcomes.{view_read, view_write, ReadPost, WritePost}
use Rattle.making.specs.Views.{plain_view, protected_view}
use Rattle.view.specs.declared.{Outcome.Outcome, View.View}
use Rattle.boundary_numbers.specs.BoundaryNumbers.{layout_from, view_from, opened_left, viewed_left, block_left}
use Rattle.boundary_answers.specs.BoundaryAnswers.{numbered_left}
use Rattle.boundary_keys.specs.BoundaryKeys.{keys_left}
use Rattle.boundary_extents.specs.BoundaryExtents.{offset_left}
use Rattle.boundary_answers.specs.BoundaryAnswers.{Tells}
use Rattle.boundary_access.specs.BoundaryAccess.{WriteCall}
use Rattle.header_claims.specs.Writing.{Request, answer_to}
use Rattle.answers.specs.{Answers.{refuse, refuse_at, refusal_number}, declared.Refusal.Refusal}
use Rattle.protection.specs.Protection.{Protection}

-- every refusal is told by its own number, and every acceptance by 0, whatever was asked for; the number of `refuse` and of `refuse_at`,
-- by which the other claims name refusals, is the one that is given there
pub record TellsNumbers : Type 0 where
  pub opened_accepted : (layout : Layout) → refusal_number (Ok layout) ≡ 0
  pub opened_refused : (refusal : Refusal) → refusal_number {T = Layout} (Err refusal) ≡ refusal.number
  pub opened_by : (number : ℕ) → refusal_number {T = Layout} (refuse number) ≡ number
  pub numbered_accepted : (number : ℕ) → refusal_number (Ok number) ≡ 0
  pub numbered_refused : (refusal : Refusal) → refusal_number {T = ℕ} (Err refusal) ≡ refusal.number
  pub numbered_by : (number : ℕ) → refusal_number {T = ℕ} (refuse number) ≡ number
  pub numbered_at : (number sector : ℕ) → refusal_number {T = ℕ} (refuse_at number sector) ≡ number
  pub made_accepted : (view : View) → refusal_number (Ok view) ≡ 0
  pub made_refused : (refusal : Refusal) → refusal_number {T = View} (Err refusal) ≡ refusal.number
  pub made_by : (number : ℕ) → refusal_number {T = View} (refuse number) ≡ number
  pub done : refusal_number {T = ⊤} (Ok tt) ≡ 0
  pub refused : (refusal : Refusal) → refusal_number {T = ⊤} (Err refusal) ≡ refusal.number
  pub refused_by : (number : ℕ) → refusal_number {T = ⊤} (refuse number) ≡ number
  pub refused_at : (number sector : ℕ) → refusal_number {T = ⊤} (refuse_at number sector) ≡ number

-- an answer's number is 0 exactly where the answer is an acceptance
pub record ZeroAccepts {A R : Type 0} (number : R → ℕ) (accepted : A → R) (answer : R) : Type 0 where
  -- 0 is the number of an acceptance
  pub only : number answer ≡ 0 → (value : A) × (answer ≡ accepted value)
  -- every acceptance has the number 0
  pub each : (value : A) → answer ≡ accepted value → number answer ≡ 0

-- no call is refused by 0, so 0 tells an acceptance and no refusal
pub record ReturnsZero : Type 0 where
  pub locates : (code host_size : ℕ) → ZeroAccepts refusal_number Ok (located code host_size)
  pub opens : (candidates codes : List ℕ) (host_size : ℕ) → ZeroAccepts refusal_number Ok (opened candidates codes host_size)
  pub headers : (request : Request) (before : List ℕ)
      → (refusal_number (answer_to request before) ≡ 0) ↔ (answer_to request before ≡ Ok tt)
  pub host_sectors : (layout : Layout) (user : ℕ) → ZeroAccepts refusal_number Ok (host_sector layout user)
  pub user_sectors : (layout : Layout) (host : ℕ) → ZeroAccepts refusal_number Ok (user_sector layout host)
  pub tweaks : (layout : Layout) (user : ℕ) → ZeroAccepts refusal_number Ok (tweak_of layout user).number
  pub plain_views : (layout : Layout) → ZeroAccepts refusal_number Ok (plain_view layout)
  pub protected_views : (outer hidden_layout : Layout) → ZeroAccepts refusal_number Ok (protected_view outer hidden_layout)
  pub reads : (view : View) (image : List ℕ) (first count : ℕ) (buffer filled : List ℕ) (outcome : Outcome View ⊤)
      → ReadPost view image first count buffer outcome filled
      → (refusal_number (view_read view (length image) first count (length buffer)) ≡ 0) ↔ (outcome.answer ≡ Ok tt)
  pub writes : (view : View) (image : List ℕ) (first count : ℕ) (buffer written : List ℕ) (outcome : Outcome View ⊤)
      → WritePost view image first count buffer outcome written
      → (refusal_number (view_write view (length image) first count (length buffer)) ≡ 0) ↔ (outcome.answer ≡ Ok tt)

-- the order of the numbers that are passed: struct ondristela_layout and struct ondristela_view
pub record OrdersNumbers (host kind magic version program start size candidate sectors protected first end lock : ℕ) : Type 0 where
  pub layout : layout_from (host ∷ kind ∷ magic ∷ version ∷ program ∷ start ∷ size ∷ candidate ∷ sectors ∷ [])
      ≡ record {
        host_size = host;
        kind = kind;
        magic = magic;
        version = version;
        min_program_version = program;
        data_start = start;
        data_size = size;
        candidate = candidate;
        sector_size = sectors;
      }
  -- any number but 0 tells of a protected range, and of a closed lock
  pub view : view_from (host ∷ kind ∷ magic ∷ version ∷ program ∷ start ∷ size ∷ candidate ∷ sectors ∷ protected ∷ first ∷ end ∷ lock ∷ [])
      ≡ record {
        layout = layout_from (host ∷ kind ∷ magic ∷ version ∷ program ∷ start ∷ size ∷ candidate ∷ sectors ∷ []);
        protection = cond (eqb protected 0) None (Some (first, end));
        locked = not (eqb lock 0);
      }

-- the numbers of a layout, and of what a view protects, as they are stored
abbrev pub stored_layout : Layout → List ℕ
stored_layout layout =
    layout.host_size ∷ layout.kind ∷ layout.magic ∷ layout.version ∷ layout.min_program_version ∷ layout.data_start
    ∷ layout.data_size ∷ layout.candidate ∷ layout.sector_size ∷ []

abbrev pub stored_protection : Protection → List ℕ
stored_protection None = 0 ∷ 0 ∷ 0 ∷ []
stored_protection (Some (first, end)) = 1 ∷ first ∷ end ∷ []

-- what each call stores: on an acceptance the answer's own numbers, on a refusal nothing, but for the sector in the way, and that a
-- write's 18 closes the view's lock
pub record StoresAnswers (before : List ℕ) : Type 0 where
  pub layout : (layout : Layout) → opened_left (Ok layout) before ≡ stored_layout layout
  pub no_layout : (refusal : Refusal) → opened_left (Err refusal) before ≡ before
  -- the offset and the length of the key bytes, which lie inside the candidates
  pub keys : (layout : Layout) → keys_left (Ok layout) before ≡ (layout.candidate * 512 + 256) ∷ 256 ∷ []
  pub keys_inside : (candidates codes : List ℕ) (host_size : ℕ) (layout : Layout) → opened candidates codes host_size ≡ Ok layout
      → layout.candidate * 512 + 256 + 256 ≤ length candidates
  pub no_keys : (refusal : Refusal) → keys_left (Err refusal) before ≡ before
  pub number : (number : ℕ) → numbered_left (Ok number) before ≡ number ∷ []
  pub no_number : (refusal : Refusal) → numbered_left (Err refusal) before ≡ before
  pub block : (sector : ℕ) (block : List ℕ) → block_left (Ok sector) block before ≡ block
  pub no_block : (refusal : Refusal) (block : List ℕ) → block_left (Err refusal) block before ≡ before
  -- a view, and that the view comes back from its numbers
  pub view : (view : View)
      → viewed_left (Ok view) before ≡ stored_layout view.layout ++ stored_protection view.protection ++ cond view.locked 1 0 ∷ []
  pub view_back : (view : View) → view_from (viewed_left (Ok view) before) ≡ view
  pub no_view : (refusal : Refusal) → viewed_left (Err refusal) before ≡ before
  -- a write's numbers: 18 closes the lock, and any other number leaves them as they were
  pub closes : (image : List ℕ) (first count : ℕ) (buffer other written left sector : List ℕ) → length before ≡ 13
      → WriteCall before image first count buffer other 18 written left sector → left ≡ take 12 before ++ (1 ∷ [])
  pub same_view : (image : List ℕ) (first count : ℕ) (buffer other written left sector : List ℕ) (number : ℕ) → (number ≡ 18 → ⊥)
      → WriteCall before image first count buffer other number written left sector → left ≡ before
  -- an extent's first byte
  pub offset : (offset : ℕ) → offset_left (Ok offset) before ≡ offset ∷ []
  pub no_offset : (refusal : Refusal) → offset_left (Err refusal) before ≡ before
  -- the sector that a refusal names, and nothing where an answer names none
  pub sector : (number sector other : ℕ) (after : List ℕ) → Tells (refuse_at number sector) before other after → after ≡ sector ∷ []
  pub no_sector : (number other : ℕ) (after : List ℕ) → Tells (refuse number) before other after → after ≡ before
  pub accepted_sector : (other : ℕ) (after : List ℕ) → Tells (Ok tt) before other after → after ≡ before
