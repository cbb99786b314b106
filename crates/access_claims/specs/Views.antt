-- Views (RULES.md, Views): when one is sound, from which layouts one is made, and what it then is, field by field.
-- `plain_view` and `protected_view` are the definitions that the contracts of `making::plain` and `making::protected` cite. Assumes nothing.
use Rattle.std.specs.Prelude.{ℕ, ◌+◌, ◌%◌, ◌≤◌, ◌<◌, Ok, Some, None}
use mathlib.Core.{Path.◌≡◌, Bool.{Bool, false}}
use Rattle.layout.specs.Rules.{standard, hidden}
use Rattle.layout.specs.declared.Layout.{Layout}
use Rattle.making.specs.Views.{plain_view, protected_view}
use Rattle.view.specs.declared.View.{View}
use Rattle.header_claims.specs.{Header.Multiple, SectorMap.Sound}
use Rattle.answers.specs.Answers.{refuse}
use Rattle.protection.specs.Protection.{Protection}

-- a volume's view that protects nothing
abbrev pub plain : Layout → Bool → View
plain layout locked = record { layout = layout; protection = None; locked = locked }

-- a volume's data area as a protected range, from its first byte to the byte past its end
abbrev pub area : Layout → Protection
area layout = Some (layout.data_start, layout.data_start + layout.data_size)

-- an outer volume's view that protects a hidden one's data area
abbrev pub protecting : Layout → Layout → Bool → View
protecting outer hidden_layout locked = record { layout = outer; protection = area hidden_layout; locked = locked }

-- bytes that may be protected: of a standard volume's data area, on sector boundaries, and at least one sector
pub record ProtectedRange (layout : Layout) (first end : ℕ) : Type 0 where
  pub standard_volume : layout.kind ≡ standard
  pub first_multiple : first % 512 ≡ 0
  pub end_multiple : end % 512 ≡ 0
  pub not_empty : first < end
  pub starts : layout.data_start ≤ first
  pub ends : end ≤ layout.data_start + layout.data_size

-- what is protected, if anything is
unfoldable pub SoundRange : Layout → Protection → Type 0
SoundRange layout None = Unit
SoundRange layout (Some (first, end)) = ProtectedRange layout first end

-- a view is sound: its layout and what it protects are, and its lock is open or closed
pub record SoundView (view : View) : Type 0 where
  pub layout_sound : Sound view.layout
  pub range_sound : SoundRange view.layout view.protection

-- two layouts nest: a standard volume, and a hidden one on the same host, with sectors of one size, whose data area lies in the first's
pub record Nested (outer hidden_layout : Layout) : Type 0 where
  pub first_standard : outer.kind ≡ standard
  pub second_hidden : hidden_layout.kind ≡ hidden
  pub same_host : outer.host_size ≡ hidden_layout.host_size
  pub same_sectors : outer.sector_size ≡ hidden_layout.sector_size
  pub starts : outer.data_start ≤ hidden_layout.data_start
  pub ends : hidden_layout.data_start + hidden_layout.data_size ≤ outer.data_start + outer.data_size

-- the claim, for any two layouts
pub record MakesViews (outer hidden_layout : Layout) : Type 0 where
  -- a plain view, its lock open, from any sound layout, else 11
  pub plain_made : Sound outer → plain_view outer ≡ Ok (plain outer false)
  pub plain_unsound : (Sound outer → ⊥) → plain_view outer ≡ refuse 11
  -- a protected view, its lock open: 11 if either is unsound, then 12 unless they nest
  pub guarded_made : Sound outer → Sound hidden_layout → Nested outer hidden_layout → protected_view outer hidden_layout ≡ Ok (protecting outer hidden_layout false)
  pub guarded_unsound : (Sound outer × Sound hidden_layout → ⊥) → protected_view outer hidden_layout ≡ refuse 11
  pub guarded_apart : Sound outer → Sound hidden_layout → (Nested outer hidden_layout → ⊥) → protected_view outer hidden_layout ≡ refuse 12
  -- what comes out is sound, whatever its lock later
  pub plain_sound : (locked : Bool) → Sound outer → SoundView (plain outer locked)
  pub guarded_sound : (locked : Bool) → Sound outer → Sound hidden_layout → Nested outer hidden_layout → SoundView (protecting outer hidden_layout locked)
  -- .. and its protected range is of whole sectors of the disk, as a made-up one need not be
  pub guarded_whole : Sound hidden_layout → Nested outer hidden_layout
      → Multiple hidden_layout.data_start outer.sector_size
      × Multiple (hidden_layout.data_start + hidden_layout.data_size) outer.sector_size
