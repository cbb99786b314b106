-- Consecutive numbers, and that an extent inside a sound layout covers consecutive host sectors, from that of its first user sector on.
-- Assumes nothing.
use Prim.Native.Nat.{ℕ, zero, suc, ◌+◌, ◌≤◌, ◌<◌}
use native.Mathlib.Omega.{arith}
use native.Mathlib.Nat.{add-suc}
use mathlib.Core.{Path.{◌≡◌, refl, ap}, Bool.true, List.{List, [], ◌∷◌}}
use lib.ListN.{length}
use borrow.Author.Tests.{lt-ltb}
use Rattle.layout.specs.{Rules.sound, declared.Layout.Layout}
use Rattle.sector_map.specs.SectorMap.{sectors, first_sector, host_sector}
use Rattle.model.proofs.Lawful.{Every, Distinct}
use Rattle.access_claims.specs.Table.{with_host, covers}
use Rattle.std.specs.Prelude.{Ok}

-- so many numbers, from one on
unfoldable pub consecutive : ℕ → ℕ → List ℕ
consecutive host zero = []
consecutive host (suc count) = host ∷ consecutive (suc host) count

pub length_consecutive : (host count : ℕ) → length (consecutive host count) ≡ count
unfolding consecutive
length_consecutive host zero = refl
length_consecutive host (suc count) = ap suc (length_consecutive (suc host) count)

pub every_consecutive : (P : ℕ → Type 0) (first count : ℕ) → ((host : ℕ) → first ≤ host → host < first + count → P host)
    → Every P (consecutive first count)
unfolding consecutive
every_consecutive P first zero each = tt
every_consecutive P first (suc count) each =
    (each first (omega arith) (omega arith), every_consecutive P (suc first) count (λ host h k. each host (omega arith) (omega arith)))

pub distinct_consecutive : (first count : ℕ) → Distinct (consecutive first count)
unfolding consecutive
distinct_consecutive first zero = tt
distinct_consecutive first (suc count) =
    (every_consecutive (λ other. first ≡ other → ⊥) (suc first) count (λ host h k e. omega arith), distinct_consecutive (suc first) count)

module _ (layout : Layout) (kept : sound layout ≡ true) where
  pub host_sector_inside : (user : ℕ) → user < sectors layout → host_sector layout user ≡ Ok (first_sector layout + user)
  unfolding host_sector
  host_sector_inside user h = simp (kept, lt-ltb user (sectors layout) h)

  pub covers_consecutive : (first count : ℕ) → first + count ≤ sectors layout → covers layout first count ≡ consecutive (first_sector layout + first) count
  unfolding covers consecutive with_host
  covers_consecutive first zero h = refl
  covers_consecutive first (suc count) h =
      let inside : first < sectors layout = omega arith in
      let rest : suc first + count ≤ sectors layout = omega arith in
      simp (host_sector_inside first inside, covers_consecutive (suc first) count rest, add-suc)
