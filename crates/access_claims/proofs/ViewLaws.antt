-- The test of a view's soundness reflects what the guarantees say of it.
-- Assumes nothing.
use Prim.Native.Nat.{suc, ◌%◌}
use native.Mathlib.Omega.{arith}
use Rattle.layout.specs.{Rules.standard, declared.Layout.Layout}
use Rattle.protection.specs.Protection.{area_end, protection_rule, sound_protection}
use Rattle.view.specs.declared.View.{View}
use Rattle.access_claims.specs.Views.{SoundRange, SoundView}
use Rattle.header_claims.proofs.Reflects.{Reflects, holds, reflects_map, reflects_and, reflects_eqb, reflects_leb}
use Rattle.header_claims.proofs.SoundLaws.{sound_reflects}
use Rattle.std.specs.Prelude.{Some, None}
use Rattle.protection.specs.Protection.{Protection}

pub range_reflects : (layout : Layout) (protection : Protection) → Reflects (SoundRange layout protection) (protection_rule layout protection)
unfolding SoundRange protection_rule area_end
range_reflects layout None = holds tt
range_reflects layout (Some (first, end)) =
    reflects_map
    (λ p.
    record {
      standard_volume = p.0.0.0.0.0;
      first_multiple = p.0.0.0.0.1;
      end_multiple = p.0.0.0.1;
      not_empty = p.0.0.1;
      starts = omega (arith, p.0.1);
      ends = omega (arith, p.1);
    })
    (λ r. (((((r.standard_volume, r.first_multiple), r.end_multiple), r.not_empty), omega (arith, r.starts)), omega (arith, r.ends)))
    (reflects_and
    (reflects_and
    (reflects_and
    (reflects_and (reflects_and (reflects_eqb layout.kind standard) (reflects_eqb (first % 512) 0)) (reflects_eqb (end % 512) 0))
    (reflects_leb (suc first) end))
    (reflects_leb layout.data_start first))
    (reflects_leb end (area_end layout)))

pub view_reflects : (view : View) → Reflects (SoundView view) (sound_protection view.layout view.protection)
unfolding sound_protection
view_reflects view =
    reflects_map (λ p. record { layout_sound = p.0; range_sound = p.1 }) (λ s. (s.layout_sound, s.range_sound))
    (reflects_and (sound_reflects view.layout) (range_reflects view.layout view.protection))
