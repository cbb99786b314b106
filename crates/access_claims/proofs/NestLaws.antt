-- Two sound layouts that nest: the test for it, that both views made from them are sound, whatever their locks, and what is protected is of
-- whole sectors.
-- Assumes nothing.
use Prim.Native.Nat.{◌+◌}
use native.Mathlib.{Nat.add-mul, Omega.arith}
use mathlib.Core.{Path.{sym, ◌∙◌}, Bool.Bool}
use Rattle.layout.specs.{Rules.{standard, hidden}, declared.Layout.Layout}
use Rattle.protection.specs.Protection.{area_end}
use Rattle.pairing.specs.Pairs.{nests}
use Rattle.header_claims.specs.{Header.Multiple, SectorMap.Sound}
use Rattle.access_claims.specs.Views.{plain, protecting, SoundRange, SoundView, Nested}
use Rattle.header_claims.proofs.Reflects.{Reflects, reflects_map, reflects_and, reflects_eqb, reflects_leb}
use Rattle.header_claims.proofs.SoundLaws.{sound_on_sectors}

-- two sound layouts that nest
pub record Nest (outer hidden_layout : Layout) : Type 0 where
  pub outer_sound : Sound outer
  pub hidden_sound : Sound hidden_layout
  pub nested : Nested outer hidden_layout

pub nests_reflects : (outer hidden_layout : Layout) → Reflects (Nested outer hidden_layout) (nests outer hidden_layout)
unfolding nests area_end
nests_reflects outer hidden_layout =
    reflects_map
    (λ p.
    record {
      first_standard = p.0.0.0.0.0;
      second_hidden = p.0.0.0.0.1;
      same_host = p.0.0.0.1;
      same_sectors = p.0.0.1;
      starts = p.0.1;
      ends = p.1;
    })
    (λ n. (((((n.first_standard, n.second_hidden), n.same_host), n.same_sectors), n.starts), n.ends))
    (reflects_and
    (reflects_and
    (reflects_and
    (reflects_and (reflects_and (reflects_eqb outer.kind standard) (reflects_eqb hidden_layout.kind hidden))
    (reflects_eqb outer.host_size hidden_layout.host_size))
    (reflects_eqb outer.sector_size hidden_layout.sector_size))
    (reflects_leb outer.data_start hidden_layout.data_start))
    (reflects_leb (area_end hidden_layout) (area_end outer)))

module _ (layout : Layout) (locked : Bool) (s : Sound layout) where
  pub plain_sound_lem : SoundView (plain layout locked)
  unfolding SoundRange
  plain_sound_lem = record { layout_sound = s; range_sound = tt }

module _ (outer hidden_layout : Layout) (locked : Bool) (n : Nest outer hidden_layout) where
  pub protecting_sound : SoundView (protecting outer hidden_layout locked)
  unfolding SoundRange
  protecting_sound =
      let area = n.hidden_sound.area in
      let on = sound_on_sectors hidden_layout n.hidden_sound in
      record {
        layout_sound = n.outer_sound;
        range_sound =
            record {
              standard_volume = n.nested.first_standard;
              first_multiple = on.0;
              end_multiple = omega (arith, on);
              not_empty = omega (arith, area.at_least);
              starts = n.nested.starts;
              ends = n.nested.ends;
            };
      }

-- the hidden data area is of whole sectors of the disk, which the pair has in common
pub range_whole : (outer hidden_layout : Layout) → Sound hidden_layout → Nested outer hidden_layout
    → Multiple hidden_layout.data_start outer.sector_size
    × Multiple (hidden_layout.data_start + hidden_layout.data_size) outer.sector_size
range_whole outer hidden_layout s n =
    let start = s.area.start_multiple in
    let size = s.area.size_multiple in
    let z = hidden_layout.sector_size in
    rw n.same_sectors (
      start,
      (start.0 + size.0, (λ i. start.1 i + size.1 i) ∙ sym (add-mul start.0 size.0 z)),
    )
