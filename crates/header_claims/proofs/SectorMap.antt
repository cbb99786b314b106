-- Of a sound layout user sectors and the host sectors of its data area match one to one, each with its tweak; any other is refused 11.
-- A layout that opening accepted is sound. Assumes nothing.
use Prim.Native.Nat.{ℕ, ◌-◌, ◌/◌}
use native.Mathlib.Omega.{arith}
use mathlib.Core.{Path.{refl, ◌∙◌, ap}, List.List}
use lib.ListN.{get_or}
use Rattle.layout.specs.declared.Layout.{Layout}
use Rattle.sector_map.specs.SectorMap.{sectors, sector_count, host_sector, user_sector}
use Rattle.tweaks.specs.Tweaks.{tweak_number, block_of, tweak_of}
use Rattle.header_claims.specs.{Header.{sector_size, data_area, Keeps}, Opening.{HostSize, IsAccepted, TellsAt}}
use Rattle.header_claims.specs.SectorMap.{Sound, MapsSectors, RefusesUnsound, MapsExactly, OpenedIsSound}
use Rattle.header_claims.proofs.Reflects.{is_true, is_false}
use Rattle.header_claims.proofs.CandidateLaws.{kind_of_says}
use Rattle.header_claims.proofs.Opening.{opens_exactly_when}
use Rattle.header_claims.proofs.SoundLaws.{sound_reflects, sound_on_sectors}
use Rattle.header_claims.proofs.BlockLaws.{block_of_number}
use Rattle.header_claims.proofs.MapLaws.{is_number, is_refused, number_says}
use Rattle.header_claims.proofs.MapLaws.{host_sector_answers, user_sector_answers, host_sector_in_area, in_area_outside}
use Rattle.std.specs.Prelude.{Ok}

maps_sectors : (layout : Layout) → Sound layout → MapsSectors layout
unfolding sector_count sectors tweak_number tweak_of block_of
maps_sectors layout s =
    let there = host_sector_answers layout s in
    let back = user_sector_answers layout s in
    let inside = host_sector_in_area layout s in
    let on = sound_on_sectors layout s in
    record {
      count = rw (is_true (sound_reflects layout) s);
      there = λ user. is_number (there user);
      past = λ user h. is_refused (there user) (λ l. omega arith);
      back = λ host. is_number (back host);
      back_past = λ host. is_refused (back host);
      there_and_back = λ user host e. let h = number_says (there user) e in is_number (back host) (inside user host e) ∙ ap Ok (omega arith);
      back_and_there = λ user host e. let h = number_says (back host) e in is_number (there user) (omega arith) ∙ ap Ok (omega arith);
      injective = λ user other host e f. omega (arith, number_says (there user) e, number_says (there other) f);
      onto = λ host i. (host - layout.data_start / 512, is_number (there _) (omega arith) ∙ ap Ok (omega arith));
      inside = inside;
      outside = λ user host e. in_area_outside layout s host (inside user host e);
      tweak = λ user. refl;
      from_host_start = λ user number e. omega (arith, number_says (there user) e);
      tweak_beside = λ user. refl;
      block = λ user number e. rw e (block_of_number number (omega (arith, inside user number e)));
      no_block = λ user e. rw e;
    }

refuses_unsound : (layout : Layout) → (Sound layout → ⊥) → RefusesUnsound layout
unfolding sector_count host_sector user_sector tweak_number tweak_of block_of
refuses_unsound layout f =
    let no = is_false (sound_reflects layout) f in
    record { count = rw no; there = λ user. rw no; back = λ host. rw no; tweak = λ user. rw no; tweak_beside = λ user. rw no; no_block = λ user. rw no }

pub maps_exactly : (layout : Layout) → MapsExactly layout
maps_exactly layout = record { sound = maps_sectors layout; unsound = refuses_unsound layout }

-- the layout of an accepted candidate
accepted_sound : (candidates codes : List ℕ) (host_size i : ℕ) (layout : Layout) → HostSize host_size → IsAccepted candidates codes host_size i
    → TellsAt candidates codes host_size i layout → Sound layout
unfolding Keeps
accepted_sound candidates codes host_size i layout size accepted told =
    let area = accepted.keeps data_area i layout told in
    record {
      size = rw told.host_size_told size;
      sectors = rw told.sector_size_told (accepted.keeps sector_size);
      known = rw told.kind_told (kind_of_says (get_or codes i 0));
      area = rw area.encrypted at area;
    }

pub opened_sound_lem : OpenedIsSound
opened_sound_lem candidates codes host_size layout e =
    let says = (opens_exactly_when candidates codes host_size).only_accepts layout e in
    accepted_sound candidates codes host_size says.1.0 layout says.0.size says.1.1.accepted says.1.2
