-- Layouts and views as numbers, and what an answer that holds one leaves in the numbers passed for it (RULES.md, Boundary): what the
-- contracts of `boundary_numbers` and of every exported function cite. Assumes nothing.
use Rattle.std.specs.Prelude.{ℕ, ◌+◌, Ok, Err, Some, None}
use mathlib.Core.{Bool.{not, cond}, List.{List, [], ◌∷◌, ◌++◌}}
use lib.{Dec.eqb, ListN.get_or}
use Rattle.layout.specs.declared.Layout.{Layout}
use Rattle.view.specs.declared.View.{View}
use Rattle.answers.specs.Answers.{Answer}
use Rattle.protection.specs.Protection.{Protection}

-- how many numbers a layout has
abbrev pub layout_size : ℕ
layout_size = 9

-- where a view has its lock
abbrev pub lock_index : ℕ
lock_index = layout_size + 3

-- the numbers of a layout
unfoldable pub layout_numbers : Layout → List ℕ
layout_numbers layout =
    layout.host_size ∷ layout.kind ∷ layout.magic ∷ layout.version ∷ layout.min_program_version ∷ layout.data_start
    ∷ layout.data_size ∷ layout.candidate ∷ layout.sector_size ∷ []

-- the layout that the first numbers of a layout or a view tell; the arrays that are passed have a number at each index
unfoldable pub layout_from : List ℕ → Layout
layout_from numbers =
    record {
      host_size = get_or numbers 0 0;
      kind = get_or numbers 1 0;
      magic = get_or numbers 2 0;
      version = get_or numbers 3 0;
      min_program_version = get_or numbers 4 0;
      data_start = get_or numbers 5 0;
      data_size = get_or numbers 6 0;
      candidate = get_or numbers 7 0;
      sector_size = get_or numbers 8 0;
    }

-- what is protected, as three numbers: 0 for nothing, else 1, the range's first byte and the byte past its end
unfoldable pub protection_numbers : Protection → List ℕ
protection_numbers None = 0 ∷ 0 ∷ 0 ∷ []
protection_numbers (Some (first, end)) = 1 ∷ first ∷ end ∷ []

-- what three numbers protect: nothing where the first is 0, else the range
unfoldable pub protection_from : ℕ → ℕ → ℕ → Protection
protection_from protected first end = cond (eqb protected 0) None (Some (first, end))

-- the numbers of a view: its layout's, what is protected, and the lock, 0 open and 1 closed
unfoldable pub view_numbers : View → List ℕ
view_numbers view = layout_numbers view.layout ++ protection_numbers view.protection ++ cond view.locked 1 0 ∷ []

-- the view that numbers tell: its lock is closed where the last is not 0
unfoldable pub view_from : List ℕ → View
view_from numbers =
    record {
      layout = layout_from numbers;
      protection = protection_from (get_or numbers layout_size 0) (get_or numbers (layout_size + 1) 0) (get_or numbers (layout_size + 2) 0);
      locked = not (eqb (get_or numbers lock_index 0) 0);
    }

-- what an answer holds, and what was there where it is a refusal
unfoldable pub given_or : {T : Type 0} → Answer T → T → T
given_or (Ok given) before = given
given_or (Err refusal) before = before

-- what a call leaves: on an acceptance the layout's numbers, the view's or the tweak's block, on a refusal what was there
unfoldable pub opened_left : Answer Layout → List ℕ → List ℕ
opened_left (Ok layout) before = layout_numbers layout
opened_left (Err refusal) before = before

unfoldable pub viewed_left : Answer View → List ℕ → List ℕ
viewed_left (Ok view) before = view_numbers view
viewed_left (Err refusal) before = before

unfoldable pub block_left : Answer ℕ → List ℕ → List ℕ → List ℕ
block_left (Ok number) block before = block
block_left (Err refusal) block before = before
