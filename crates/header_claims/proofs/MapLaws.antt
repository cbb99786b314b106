-- What the map answers for a sound layout: a sector where the guarantees say that there is one, and 16 elsewhere.
-- Assumes nothing.
use Prim.Native.Nat.{ℕ, suc, ◌+◌, ◌-◌, ◌/◌, ◌<◌}
use native.Mathlib.Omega.{arith}
use mathlib.Core.{Path.{◌≡◌, refl}, Bool.{Bool, ◌&&◌, cond}}
use lib.Dec.{leb, ltb}
use Rattle.layout.specs.declared.Layout.{Layout}
use Rattle.sector_map.specs.SectorMap.{sectors, first_sector, host_sector, user_sector}
use Rattle.header_claims.specs.SectorMap.{Sound, InArea, Outside, OutsideHeaders}
use Rattle.header_claims.proofs.Reflects.{Reflects, holds, fails, is_true, reflects_map, reflects_and, reflects_leb}
use Rattle.header_claims.proofs.SoundLaws.{sound_reflects, sound_on_sectors, sound_start}
use Rattle.std.specs.Prelude.{Ok}
use Rattle.answers.specs.Answers.{Answer, refuse}

-- an answer is a number where P holds, and else 16
pub data Answers (P : Type 0) (n : ℕ) : Answer ℕ → Type 0 where
  answers_number : P → Answers P n (Ok n)
  answers16 : (P → ⊥) → Answers P n (refuse 16)

answers_cond : {P : Type 0} {b : Bool} (n : ℕ) → Reflects P b → Answers P n (cond b (Ok n) (refuse 16))
answers_cond n (holds p) = answers_number p
answers_cond n (fails f) = answers16 f

pub is_number : {P : Type 0} {n : ℕ} {m : Answer ℕ} → Answers P n m → P → m ≡ Ok n
is_number (answers_number p) q = refl
is_number (answers16 f) q = absurd (f q)

pub is_refused : {P : Type 0} {n : ℕ} {m : Answer ℕ} → Answers P n m → (P → ⊥) → m ≡ refuse 16
is_refused (answers_number p) g = absurd (g p)
is_refused (answers16 f) g = refl

pub number_says : {P : Type 0} {n k : ℕ} {m : Answer ℕ} → Answers P n m → m ≡ Ok k → P × (n ≡ k)
number_says (answers_number p) e = (p, (cc))
number_says (answers16 f) e = let z : ◌≡◌ {A = ℕ} 0 1 = cc in absurd (omega arith)

module _ (layout : Layout) (s : Sound layout) where
  in_area_reflects : (host : ℕ) → Reflects (InArea layout host) (leb (first_sector layout) host && ltb host (first_sector layout + sectors layout))
  unfolding first_sector sectors
  in_area_reflects host =
      let on = sound_on_sectors layout s in
      reflects_map (λ p. record { starts = omega arith; ends = omega arith }) (λ i. (omega arith, omega arith))
      (reflects_and (reflects_leb (first_sector layout) host) (reflects_leb (suc host) (first_sector layout + sectors layout)))

  pub host_sector_answers : (user : ℕ) → Answers (user < layout.data_size / 512) (layout.data_start / 512 + user) (host_sector layout user)
  unfolding host_sector first_sector sectors
  host_sector_answers user =
      rw (is_true (sound_reflects layout) s) (answers_cond (first_sector layout + user) (reflects_leb (suc user) (sectors layout)))

  pub user_sector_answers : (host : ℕ) → Answers (InArea layout host) (host - layout.data_start / 512) (user_sector layout host)
  unfolding user_sector first_sector
  user_sector_answers host = rw (is_true (sound_reflects layout) s) (answers_cond (host - first_sector layout) (in_area_reflects host))

  pub host_sector_in_area : (user host : ℕ) → host_sector layout user ≡ Ok host → InArea layout host
  host_sector_in_area user host e =
      let on = sound_on_sectors layout s in
      let h = number_says (host_sector_answers user) e in
      record { starts = omega arith; ends = omega arith }

  pub in_area_outside : (host : ℕ) → InArea layout host → OutsideHeaders layout.host_size host
  unfolding Outside
  in_area_outside host i =
      let start = sound_start layout s in
      record {
        in_host = omega arith;
        standard_header = λ byte a b c d. omega arith;
        hidden_header = λ byte a b c d. omega arith;
        backup = λ byte a b c d. omega arith;
        hidden_backup = λ byte a b c d. omega arith;
      }
