-- The candidate at an index: it is judged by the kind of its code.
-- Assumes nothing.
use Prim.Native.Nat.{ℕ, zero, suc, ◌%◌, ◌≤◌, ◌<◌}
use native.Mathlib.Omega.{arith}
use mathlib.Core.{Path.{◌≡◌, refl}, Logic.{inl, inr}, List.List}
use lib.ListN.{length, get_or, length-take, length-drop}
use Rattle.header.specs.Header.{judge}
use Rattle.locations.specs.Locations.{locations, location_of}
use Rattle.opening.specs.Opening.{candidate_at}
use Rattle.header_claims.specs.{Header.KnownKind, Opening.{Lengths, candidate, kind_of}}
use Rattle.header_claims.proofs.JudgementLaws.{Judgement, judge_says}

pub location_of_kind : (code : ℕ) → code ≤ 3 → (location_of code).kind ≡ kind_of code
unfolding location_of locations kind_of
location_of_kind zero h = refl
location_of_kind (suc zero) h = refl
location_of_kind (suc (suc zero)) h = refl
location_of_kind (suc (suc (suc zero))) h = refl
location_of_kind (suc (suc (suc (suc code)))) h = absurd (omega arith)

pub kind_of_says : (code : ℕ) → KnownKind (kind_of code)
unfolding kind_of
kind_of_says code = go (code % 2) (omega arith)
  where
    go : (kind : ℕ) → kind < 2 → KnownKind kind
    go zero h = inl refl
    go (suc zero) h = inr refl
    go (suc (suc kind)) h = absurd (omega arith)

length_candidate : (candidates codes : List ℕ) (i : ℕ) → Lengths candidates codes → i < length codes → length (candidate candidates i) ≡ 512
unfolding candidate
length_candidate candidates codes i lengths inside = simp (length-take, length-drop) (omega arith)

module _ (candidates codes : List ℕ) (host_size i : ℕ) where
  pub judge_at_says : Lengths candidates codes → i < length codes → get_or codes i 0 ≤ 3
      → Judgement (kind_of (get_or codes i 0)) host_size i (candidate candidates i)
      (judge (location_of (get_or codes i 0)).kind host_size i (candidate_at i candidates))
  unfolding candidate candidate_at
  judge_at_says lengths inside known =
      rw location_of_kind
      (judge_says (kind_of (get_or codes i 0)) host_size i (candidate candidates i)
      (length_candidate candidates codes i lengths inside))
