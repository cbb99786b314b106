-- The sector that a refused read or write names is the larger of two numbers. Assumes nothing.
use Prim.Native.Nat.{ℕ, ◌+◌, ◌-◌, ◌/◌}
use native.Mathlib.Omega.{arith}
use mathlib.Core.{Path.{◌≡◌, refl, sym, ap, subst, ◌∙◌}, Logic.{◌⊎◌, inl, inr, ⊎_elim}, Bool.{Bool, true, false, true≢false, ◌&&◌, cond}, List.List}
use lib.{Dec.{leb, eqb}, ListN.length}
use Rattle.extent.specs.Extents.{has, larger, overlap, beyond}
use Rattle.extent.specs.declared.Extent.{Extent}
use Rattle.extent.proofs.OverlapLaws.{Shared, none, least, overlap_shared}
use Rattle.judgement.specs.Judging.{blocked_by, end_answer, checked, read_answer, write_answer}
use Rattle.judgement.proofs.JudgingLaws.{names_sector, checked_by, lock_by}
use Rattle.layout.specs.declared.Layout.{Layout}
use Rattle.protection.specs.Protection.{protected_extent}
use Rattle.sector_map.specs.SectorMap.{sectors}
use Rattle.view.specs.declared.View.{View}
use Rattle.access_claims.specs.InTheWay.{IsLarger, NamesFirst, NamesSectors}
use Rattle.access_claims.proofs.Extents.{larger_is}
use Rattle.std.specs.Prelude.{Ok, Err, Some, None, Option, ⊤}
use Rattle.answers.specs.Answers.{Answer, refuse, refuse_at}
use Rattle.protection.specs.Protection.{Protection}

module _ (layout : Layout) (protection : Protection) (first : ℕ) where
  -- what 18 names
  abbrev Protects : ℕ → Type 0
  Protects sector =
      (start : ℕ) × (end : ℕ) × (protection ≡ Some (start, end)) × IsLarger sector first ((start - layout.data_start) / 512)

  -- what an answer names, with what is said of 18
  module _ (At18 : ℕ → Type 0) where
    Names : ℕ → Option ℕ → Type 0
    Names number None = (number ≡ 16 → ⊥) × (number ≡ 18 → ⊥)
    Names number (Some sector) = ((number ≡ 16) × IsLarger sector first (layout.data_size / 512)) ⊎ ((number ≡ 18) × At18 sector)

    Says : Answer ⊤ → Type 0
    Says (Ok done) = Unit
    Says (Err refusal) = Names refusal.number refusal.sector

    end_says : (count : ℕ) (rest : Answer ⊤) → Says rest → Says (end_answer layout first count rest)
    unfolding end_answer beyond blocked_by sectors Says Names
    end_says count rest says = go (leb (first + count) (sectors layout))
      where
        go : (t : Bool) → Says (blocked_by 16 (cond t None (Some (larger first (sectors layout)))) rest)
        go true = says
        go false = inl (refl, larger_is first (sectors layout))

    -- a refusal that names no sector
    refused_says : (number : ℕ) → eqb number 0 ≡ false → names_sector number ≡ false → Says (refuse number)
    unfolding Says Names
    refused_says number some other = (λ e. true≢false (ap names_sector (sym e) ∙ other), λ e. true≢false (ap names_sector (sym e) ∙ other))

    checked_says : (image_size count buffer_size : ℕ) (rest : Answer ⊤) → Says rest
        → Says (checked layout protection image_size first count buffer_size rest)
    checked_says image_size count buffer_size rest says =
        checked_by Says refused_says layout protection first count image_size buffer_size rest (end_says count rest says)

  names_first : (answer : Answer ⊤) → Says Protects answer → NamesFirst layout protection first answer
  unfolding Says Names
  names_first answer says =
      record {
        none_named = λ number e. subst (Says Protects) e says;
        one_named = λ number sector e. ⊎_elim (λ p. inl p.0) (λ p. inr p.0) (subst (Says Protects) e says);
        past = λ sector e. ⊎_elim (λ p. p.1) (λ p. absurd (omega (arith, p.0))) (subst (Says Protects) e says);
        protected = λ sector e. ⊎_elim (λ p. absurd (omega (arith, p.0))) (λ p. p.1) (subst (Says Protects) e says);
      }

  -- what an extent shares with the protected sectors
  shared_says : (count : ℕ) (range : Protection) → protection ≡ range
      → Says Protects (blocked_by 18 (overlap (record { first = first; count = count }) (protected_extent layout range)) (Ok tt))
  unfolding protected_extent overlap blocked_by Says Names
  shared_says count None e = go (overlap_shared (record { first = first; count = count }) (record { first = 0; count = 0 }))
    where
      go : {shared : Option ℕ} → Shared (record { first = first; count = count }) (record { first = 0; count = 0 }) shared
          → Says Protects (blocked_by 18 shared (Ok tt))
      go (none f) = tt
      go (least sector i j l) = absurd (omega (arith, j.ends))
  shared_says count (Some (start, end)) e =
      let range : Extent = protected_extent layout (Some (start, end)) in
      let extent : Extent = record { first = first; count = count } in
      let sector = larger first ((start - layout.data_start) / 512) in
      go (has extent sector && has range sector)
    where
      go : (t : Bool) → Says Protects (blocked_by 18 (cond t (Some (larger first ((start - layout.data_start) / 512))) None) (Ok tt))
      go true = inr (refl, (start, end, e, larger_is first ((start - layout.data_start) / 512)))
      go false = tt

  write_says : (image_size count buffer_size : ℕ) (locked : Bool)
      → Says Protects (write_answer layout protection locked image_size first count buffer_size)
  unfolding write_answer
  write_says image_size count buffer_size locked =
      checked_says Protects image_size count buffer_size _
      (lock_by (Says Protects) (refused_says Protects) layout protection first count locked (shared_says count protection refl))

  read_says : (At18 : ℕ → Type 0) (image_size count buffer_size : ℕ) → Says At18 (read_answer layout protection image_size first count buffer_size)
  unfolding read_answer Says Names
  read_says At18 image_size count buffer_size = checked_says At18 image_size count buffer_size (Ok tt) tt

  read_anywhere : (image_size count buffer_size sector : ℕ) → read_answer layout protection image_size first count buffer_size ≡ refuse_at 18 sector → ⊥
  unfolding Says Names
  read_anywhere image_size count buffer_size sector e =
      ⊎_elim (λ p. omega (arith, p.0)) (λ p. p.1) (subst (Says (λ sector. ⊥)) e (read_says (λ sector. ⊥) image_size count buffer_size))

pub names_sectors : (view : View) (image : List ℕ) (first count : ℕ) (buffer : List ℕ) → NamesSectors view image first count buffer
names_sectors view image first count buffer =
    let layout = view.layout in
    let protection = view.protection in
    record {
      reads = names_first layout protection first _ (read_says layout protection first (Protects layout protection first) (length image) count (length buffer));
      writes = names_first layout protection first _ (write_says layout protection first (length image) count (length buffer) view.locked);
      reads_anywhere = read_anywhere layout protection first (length image) count (length buffer);
    }
