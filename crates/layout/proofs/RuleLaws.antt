-- What the rules of `specs/Rules.antt` say in numbers, for crates above.
-- Assumes nothing.
use Rattle.std.proofs.Common.{ℕ, ◌+◌, ◌%◌, ◌<◌, ◌≤◌, eqb, leb, arith, leb-true}
use mathlib.Core.{Path.{◌≡◌, refl, sym, ◌∙◌}, Bool.{Bool, true, false, ◌&&◌, cond, and-false}}
use borrow.Author.Tests.{lt-leb}
use Rattle.layout.specs.declared.Layout.{Layout}
use Rattle.layout.specs.Rules.{standard, hidden, sector_bytes, headers_size, min_host_size, max_host_size, multiple, host_size_rule, sector_size_rule, place_rule, sectors_rule, data_area_rule, sound}

pub and_true_left : (a b : Bool) → (a && b) ≡ true → a ≡ true
and_true_left true b h = refl
and_true_left false b h = h

pub and_true_right : (a b : Bool) → (a && b) ≡ true → b ≡ true
and_true_right true b h = h
and_true_right false true h = refl
and_true_right false false h = h

pub host_size_least : (size : ℕ) → host_size_rule size ≡ true → min_host_size ≤ size
unfolding host_size_rule
host_size_least size h =
    let multiple = eqb (size % sector_bytes) 0 in
    let least = leb min_host_size size in
    leb-true min_host_size size (and_true_right multiple least (and_true_left (multiple && least) (leb size max_host_size) h))

pub host_size_most : (size : ℕ) → host_size_rule size ≡ true → size ≤ max_host_size
unfolding host_size_rule
host_size_most size h =
    leb-true size max_host_size (and_true_right (eqb (size % sector_bytes) 0 && leb min_host_size size) (leb size max_host_size) h)

-- a place whose end is wrong is none, whatever the kind and the start
no_end : (standard start hidden later : Bool) → cond standard (start && false) (hidden && (later && false)) ≡ false
no_end true start hidden later = and-false start
no_end false start true later = and-false later
no_end false start false later = refl

right_end : (standard start hidden later ends : Bool) → cond standard (start && ends) (hidden && (later && ends)) ≡ true → ends ≡ true
right_end standard start hidden later true kept = refl
right_end standard start hidden later false kept = sym (no_end standard start hidden later) ∙ kept

module _ (layout : Layout) where
  -- an area that runs into the backups has no place
  pub past_backups : layout.host_size < layout.data_start + layout.data_size + headers_size → place_rule layout ≡ false
  unfolding place_rule
  past_backups past =
      let start = layout.data_start in
      rw (lt-leb (start + layout.data_size + headers_size) layout.host_size past)
      (no_end (eqb layout.kind standard) (eqb start headers_size) (eqb layout.kind hidden) (leb headers_size start))

  -- so one that has its place ends before them
  pub place_ends : place_rule layout ≡ true → layout.data_start + layout.data_size + headers_size ≤ layout.host_size
  unfolding place_rule
  place_ends kept =
      let start = layout.data_start in
      let ends = leb (start + layout.data_size + headers_size) layout.host_size in
      leb-true (start + layout.data_size + headers_size) layout.host_size
      (right_end (eqb layout.kind standard) (eqb start headers_size) (eqb layout.kind hidden) (leb headers_size start) ends kept)

-- what an allowed data area says of Z and V
module _ (layout : Layout) (area : data_area_rule layout ≡ true) where
  abbrev whole : ℕ → Bool
  whole number = multiple number layout.sector_size

  sectors_and_least : (sector_size_rule layout.sector_size && leb sector_bytes layout.data_size) ≡ true
  unfolding data_area_rule sectors_rule
  sectors_and_least =
      let some = sector_size_rule layout.sector_size && leb sector_bytes layout.data_size in
      let size = some && whole layout.data_size in
      let start = size && whole layout.data_start in
      and_true_left some (whole layout.data_size)
      (and_true_left size (whole layout.data_start)
      (and_true_left start (whole layout.host_size) (and_true_left (sectors_rule layout) (place_rule layout) area)))

  pub area_sector_size : sector_size_rule layout.sector_size ≡ true
  area_sector_size = and_true_left (sector_size_rule layout.sector_size) (leb sector_bytes layout.data_size) sectors_and_least

  pub size_least : sector_bytes ≤ layout.data_size
  size_least =
      leb-true sector_bytes layout.data_size
      (and_true_right (sector_size_rule layout.sector_size) (leb sector_bytes layout.data_size) sectors_and_least)

module _ (layout : Layout) (kept : sound layout ≡ true) where
  pub sound_host_size : host_size_rule layout.host_size ≡ true
  unfolding sound
  sound_host_size = and_true_left (host_size_rule layout.host_size) (data_area_rule layout) kept

  pub sound_data_area : data_area_rule layout ≡ true
  unfolding sound
  sound_data_area = and_true_right (host_size_rule layout.host_size) (data_area_rule layout) kept

  pub sound_sector_size : sector_size_rule layout.sector_size ≡ true
  sound_sector_size = area_sector_size layout sound_data_area

  -- the data area ends before the backup headers
  pub sound_ends : layout.data_start + layout.data_size + headers_size ≤ layout.host_size
  unfolding data_area_rule
  sound_ends = place_ends layout (and_true_right (sectors_rule layout) (place_rule layout) sound_data_area)

  -- so its end is far below 2^64
  pub sound_end_le : layout.data_start + layout.data_size ≤ max_host_size
  sound_end_le = omega (arith, sound_ends, host_size_most layout.host_size sound_host_size)
