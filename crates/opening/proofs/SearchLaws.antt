-- The search goes on: over a joined list of codes it goes on from the answer of the first part, so an answer over the first candidates is all
-- that has to be kept of them. Assumes nothing.
use Prim.Native.Nat.{ℕ, suc, ◌+◌, ◌<◌}
use native.Mathlib.Nat.{add-zero, zero-add, add-suc, suc-add}
use native.Mathlib.Numerals.{add-one}
use native.Mathlib.Omega.{arith}
use mathlib.Core.{Path.{◌≡◌, refl, sym, ap, ◌∙◌}, List.{List, [], ◌∷◌, ◌++◌, foldl, foldl-append}}
use lib.{ListN.{length, get_or, take, drop, length-take, take-append-drop}, Seq.take-suc}
use Rattle.layout.specs.declared.Layout.{Layout}
use Rattle.locations.specs.Locations.{location_of}
use Rattle.header.specs.Header.{judge}
use Rattle.opening.specs.Opening.{candidate_at, judgements, further, searched}
use Rattle.std.specs.Prelude.{Ok}
use Rattle.answers.specs.Answers.{Answer, refuse}

-- an acceptance stays
pub accepted_stays : (layout : Layout) (later : List (Answer Layout)) → foldl further (Ok layout) later ≡ Ok layout
unfolding further
accepted_stays layout [] = refl
accepted_stays layout (next ∷ later) = accepted_stays layout later

module _ (candidates : List ℕ) (host_size : ℕ) where
  judgements_append : (index : ℕ) (codes more : List ℕ)
      → judgements candidates host_size index (codes ++ more)
      ≡ judgements candidates host_size index codes ++ judgements candidates host_size (index + length codes) more
  unfolding judgements
  judgements_append index [] more = rw add-zero
  judgements_append index (code ∷ codes) more = rw (judgements_append (suc index) codes more, suc-add, add-suc)

  -- searching a joined list is going on from the answer of its first part
  pub searched_append : (codes more : List ℕ)
      → searched candidates host_size (codes ++ more)
      ≡ foldl further (searched candidates host_size codes) (judgements candidates host_size (length codes) more)
  unfolding searched
  searched_append codes more =
      rw (judgements_append 0 codes more, zero-add)
      (foldl-append further (refuse 4) (judgements candidates host_size 0 codes) (judgements candidates host_size (length codes) more))

  module _ (codes : List ℕ) (i : ℕ) (inside : i < length codes) where
    -- one candidate more
    pub searched_next : searched candidates host_size (take (i + 1) codes)
        ≡ further (searched candidates host_size (take i codes)) (judge (location_of (get_or codes i 0)).kind host_size i (candidate_at i candidates))
    unfolding judgements
    searched_next =
        let size : length (take i codes) ≡ i = simp length-take (omega arith) in
        rw (add-one, take-suc codes i 0 inside, searched_append (take i codes) (get_or codes i 0 ∷ []), size)

    -- the first acceptance is the answer
    pub searched_accepted : (layout : Layout) → searched candidates host_size (take (i + 1) codes) ≡ Ok layout
        → searched candidates host_size codes ≡ Ok layout
    searched_accepted layout e =
        let behind = drop (i + 1) codes in
        ap (searched candidates host_size) (sym (take-append-drop (i + 1) codes))
        ∙ searched_append (take (i + 1) codes) behind
        ∙ rw e (accepted_stays layout (judgements candidates host_size (length (take (i + 1) codes)) behind))
