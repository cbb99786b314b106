-- The sector that a refused read or write names (RULES.md, Reads and writes), in whole numbers and on any view, made-up ones too.
-- `read_answer` and `write_answer` are the definitions that the contracts of `access` and `view` cite. Assumes nothing.
use Rattle.std.specs.Prelude.{ℕ, ◌-◌, ◌/◌, ◌≤◌, ⊤, Some}
use mathlib.Core.{Path.◌≡◌, Logic.◌⊎◌, List.List}
use Rattle.layout.specs.declared.Layout.{Layout}
use Rattle.view.specs.declared.View.{View}
use Rattle.access_claims.specs.Access.{read_by, write_by}
use Rattle.answers.specs.Answers.{Answer, refuse, refuse_at}
use Rattle.protection.specs.Protection.{Protection}

-- a number is the larger of two
pub record IsLarger (number a b : ℕ) : Type 0 where
  pub at_least_first : a ≤ number
  pub at_least_second : b ≤ number
  pub one_of_them : (number ≡ a) ⊎ (number ≡ b)

-- what an answer names, for an extent that starts at a user sector, on a view of a layout and what is protected
pub record NamesFirst (layout : Layout) (protection : Protection) (first : ℕ) (answer : Answer ⊤) : Type 0 where
  -- 16 and 18 name a sector, and no other refusal does
  pub none_named : (number : ℕ) → answer ≡ refuse number → (number ≡ 16 → ⊥) × (number ≡ 18 → ⊥)
  pub one_named : (number sector : ℕ) → answer ≡ refuse_at number sector → (number ≡ 16) ⊎ (number ≡ 18)
  -- 16: the larger of u and V/512
  pub past : (sector : ℕ) → answer ≡ refuse_at 16 sector → IsLarger sector first (layout.data_size / 512)
  -- 18: something is protected, and the sector is the larger of u and the first one there, counted from the volume's own start
  pub protected : (sector : ℕ) → answer ≡ refuse_at 18 sector
      → (start : ℕ) × (end : ℕ) × (protection ≡ Some (start, end)) × IsLarger sector first ((start - layout.data_start) / 512)

-- the claim
pub record NamesSectors (view : View) (image : List ℕ) (first count : ℕ) (buffer : List ℕ) : Type 0 where
  pub reads : NamesFirst view.layout view.protection first (read_by view image first count buffer)
  pub writes : NamesFirst view.layout view.protection first (write_by view image first count buffer)
  -- no read is refused 18
  pub reads_anywhere : (sector : ℕ) → read_by view image first count buffer ≡ refuse_at 18 sector → ⊥
