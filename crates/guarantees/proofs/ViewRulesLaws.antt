-- The rules of a view of a sound layout are lawful, and those of two views whose layouts nest keep apart. Assumes nothing.
use Prim.Native.Nat.{ℕ, ◌+◌, ◌*◌, ◌≤◌}
use native.Mathlib.Omega.{arith}
use mathlib.Core.{Path.{◌≡◌, sym, ap, ◌∙◌}, Bool.true, List.List}
use borrow.Author.Tests.{le-leb, lt-ltb}
use Rattle.layout.specs.declared.Layout.{Layout}
use Rattle.sector_map.specs.SectorMap.{sectors, first_sector}
use Rattle.model.specs.Sides.{Side, outer, hidden}
use Rattle.model.proofs.Lawful.{Every, Fitting, Lawful}
use Rattle.model.proofs.Sameness.{Apart}
use Rattle.guarantees.specs.Interleaving.{side_layout, side_protection, side_rules}
use Rattle.access_claims.specs.ReferenceModel.{in_range, first_protected, hosts_of, view_rules}
use Rattle.header_claims.specs.SectorMap.{Sound}
use Rattle.access_claims.specs.{Table.Call, Views.area}
use Rattle.access_claims.proofs.CoversLaws.{consecutive, length_consecutive, every_consecutive, distinct_consecutive}
use Rattle.access_claims.proofs.ExtentLaws.{covers_extent}
use Rattle.access_claims.proofs.FormLaws.{stored_sized_lem, shown_sized_lem}
use Rattle.access_claims.proofs.RangeLaws.{each_outside}
use Rattle.header_claims.proofs.SoundLaws.{sound_on_sectors}
use Rattle.access_claims.proofs.TableLaws.{Fits, tabled_accepted, later_untouched}
use Rattle.protection.specs.Protection.{Protection}

module _ (layout : Layout) (s : Sound layout) (size : ℕ) (call : Call) (fits : Fits layout size call) where
  -- the first host sector of the extent
  abbrev start : ℕ
  start = first_sector layout + call.first

  hosts_consecutive : hosts_of layout call ≡ consecutive start call.count
  unfolding hosts_of
  hosts_consecutive = covers_extent layout s call.first call.count fits.inside

  call_fitting : Fitting size (hosts_of layout call) call.buffer
  unfolding sectors first_sector
  call_fitting =
      rw hosts_consecutive
      (record {
        whole = fits.sized ∙ ap (λ n. n * 512) (sym (length_consecutive start call.count));
        inside =
            every_consecutive (λ host. host * 512 + 512 ≤ size) start call.count
            (λ host h k. omega (arith, fits.whole, fits.inside, s.area.fits));
        distinct = distinct_consecutive start call.count;
      })

  -- each host sector lies in the data area
  each_inside : Every (λ host. in_range (area layout) host ≡ true) (hosts_of layout call)
  unfolding sectors first_sector in_range
  each_inside =
      rw hosts_consecutive
      (every_consecutive (λ host. in_range (area layout) host ≡ true) start call.count
      (λ host h k.
      rw (
        le-leb layout.data_start (host * 512) (omega (arith, fits.inside, sound_on_sectors layout s)),
        lt-ltb (host * 512) (layout.data_start + layout.data_size) (omega (arith, fits.inside, sound_on_sectors layout s)),
      )))

module _ (layout : Layout) (protection : Protection) (key : List ℕ) (s : Sound layout) where
  pub view_lawful : Lawful (view_rules layout protection key)
  unfolding view_rules
  view_lawful =
      record {
        fitting = λ call locked size e.
            call_fitting layout s size call (tabled_accepted layout call locked (first_protected layout protection call.first call.count) size e).0;
        stored_sized = λ call. stored_sized_lem call.form key;
        shown_sized = λ call. shown_sized_lem call.form key;
      }

module _ (outer_layout hidden_layout : Layout) (outer_key hidden_key : List ℕ) (outer_sound : Sound outer_layout) (hidden_sound : Sound hidden_layout) where
  pub sides_lawful : (side : Side) → Lawful (side_rules outer_layout hidden_layout outer_key hidden_key side)
  unfolding side_rules side_layout
  sides_lawful outer = view_lawful outer_layout _ _ outer_sound
  sides_lawful hidden = view_lawful hidden_layout _ _ hidden_sound

  pub sides_apart : Apart (side_rules outer_layout hidden_layout outer_key hidden_key) (in_range (area hidden_layout))
  unfolding side_rules side_layout side_protection view_rules hosts_of
  sides_apart =
      record {
        outer_writes = λ call locked size e is_write.
            let touched = first_protected outer_layout (area hidden_layout) call.first call.count in
            let kept = (tabled_accepted outer_layout call locked touched size e).1 in
            each_outside outer_layout (area hidden_layout) call.first call.count (later_untouched call.operation locked touched is_write kept);
        hidden_calls = λ call locked size e.
            each_inside hidden_layout hidden_sound size call
            (tabled_accepted hidden_layout call locked _ size e).0;
      }
