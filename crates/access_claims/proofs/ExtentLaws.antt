-- An extent's bytes against its sectors, in any form: sectors laid or copied out one by one are one overlay, or one slice, from the extent's
-- first byte on, whose units are in the form. Assumes nothing.
use Prim.Native.Nat.{ℕ, zero, suc, ◌+◌, ◌*◌, ◌≤◌}
use native.Mathlib.Nat.{zero-add, suc-add}
use native.Mathlib.Omega.{arith}
use mathlib.Core.{Path.{◌≡◌, refl, sym, ◌∙◌, ap}, List.{List, [], ◌∷◌}}
use lib.ListN.{length, take, drop, length-take, length-drop}
use lib.Seq.{take-nil, drop-drop, take-take}
use Rattle.layout.specs.declared.Layout.{Layout}
use Rattle.sector_map.specs.SectorMap.{sectors, first_sector}
use Rattle.judgement.specs.Offsets.{extent_start}
use Rattle.fields.specs.Bytes.{overlay}
use Rattle.fields.proofs.OverlayLaws.{overlay_nil, length_overlay, overlay_append}
use Rattle.xts.specs.Runs.{in_units}
use Rattle.model.specs.Sectors.{sector_at, set_sector, lay, gather}
use Rattle.model.proofs.Lawful.{Sized}
use Rattle.access_claims.specs.Table.{covers}
use Rattle.header_claims.specs.SectorMap.{Sound}
use Rattle.access_claims.proofs.CoversLaws.{consecutive, covers_consecutive}
use Rattle.header_claims.proofs.Reflects.{is_true}
use Rattle.header_claims.proofs.SoundLaws.{sound_reflects, sound_on_sectors}

set_sector_overlay : (host : ℕ) (bytes image : List ℕ) → length bytes ≡ 512 → set_sector host bytes image ≡ overlay (host * 512) bytes image
unfolding set_sector overlay
set_sector_overlay host bytes image size = rw size

drop-take : {A : Type 0} (m n : ℕ) (list : List A) → drop m (take (m + n) list) ≡ take n (drop m list)
drop-take zero n list = rw zero-add
drop-take (suc m) n [] = rw (suc-add, take-nil)
drop-take (suc m) n (first ∷ list) = rw (suc-add, drop-take m n list)

module _ (form : ℕ → List ℕ → List ℕ) where
  lay_consecutive : Sized form → (h n : ℕ) (buffer image : List ℕ) → length buffer ≡ n * 512 → h * 512 + n * 512 ≤ length image
      → lay form (consecutive h n) buffer image ≡ overlay (h * 512) (in_units form n h buffer) image
  unfolding lay consecutive in_units
  lay_consecutive sized h zero buffer image size fits = sym (overlay_nil (h * 512) image)
  lay_consecutive sized h (suc n) buffer image size fits =
      let a = form h (take 512 buffer) in
      let b = drop 512 buffer in
      let one : length a ≡ 512 = sized h (take 512 buffer) (simp length-take (omega arith)) in
      let others : length b ≡ n * 512 = simp length-drop (omega arith) in
      let inside : h * 512 + length a ≤ length image = omega arith in
      let kept = length_overlay (h * 512) a image inside in
      let next : suc h * 512 ≡ h * 512 + length a = omega arith in
      let units = in_units form n (suc h) b in
      ap (lay form (consecutive (suc h) n) b) (set_sector_overlay h a image one)
      ∙ lay_consecutive sized (suc h) n b (overlay (h * 512) a image) others (omega arith)
      ∙ ap (λ k. overlay k units (overlay (h * 512) a image)) next ∙ overlay_append (h * 512) a units image inside

  gather_consecutive : (h n : ℕ) (image : List ℕ)
      → gather (λ host. form host (sector_at host image)) (consecutive h n) ≡ in_units form n h (take (n * 512) (drop (h * 512) image))
  unfolding gather consecutive sector_at in_units
  gather_consecutive h zero image = refl
  gather_consecutive h (suc n) image =
      let rest = drop (h * 512) image in
      let size : suc n * 512 ≡ 512 + n * 512 = omega arith in
      let next : suc h * 512 ≡ h * 512 + 512 = omega arith in
      rw (
        gather_consecutive (suc h) n image,
        size,
        next,
        take-take 512 (512 + n * 512) rest (omega arith),
        drop-take 512 (n * 512) rest,
        drop-drop 512 (h * 512) image,
      )

module _ (layout : Layout) (s : Sound layout) (first count : ℕ) (inside : first + count ≤ sectors layout) where
  pub covers_extent : covers layout first count ≡ consecutive (first_sector layout + first) count
  covers_extent = covers_consecutive layout (is_true (sound_reflects layout) s) first count inside

  extent_start_lem : (first_sector layout + first) * 512 ≡ extent_start layout first
  unfolding first_sector extent_start
  extent_start_lem = omega (arith, sound_on_sectors layout s)

  pub gather_extent : (form : ℕ → List ℕ → List ℕ) (image : List ℕ)
      → gather (λ host. form host (sector_at host image)) (covers layout first count)
      ≡ in_units form count (first_sector layout + first) (take (count * 512) (drop (extent_start layout first) image))
  gather_extent form image = rw (covers_extent, ← extent_start_lem) (gather_consecutive form (first_sector layout + first) count image)

  pub lay_extent : (form : ℕ → List ℕ → List ℕ) → Sized form → (buffer image : List ℕ) → length buffer ≡ count * 512
      → length image ≡ layout.host_size
      → lay form (covers layout first count) buffer image
      ≡ overlay (extent_start layout first) (in_units form count (first_sector layout + first) buffer) image
  unfolding sectors first_sector
  lay_extent form sized buffer image size whole =
      rw (covers_extent, ← extent_start_lem)
      (lay_consecutive form sized (first_sector layout + first) count buffer image size (omega (arith, sound_on_sectors layout s)))
