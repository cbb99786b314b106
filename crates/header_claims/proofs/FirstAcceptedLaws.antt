-- What the search over allowed candidates gives: the layout of the first accepted one, else the refusal of the first header, else 4.
-- Assumes nothing.
use Prim.Native.Nat.{ℕ, zero, suc, ◌≤◌, ◌<◌}
use native.Mathlib.Numerals.{add-one}
use native.Mathlib.Omega.{arith}
use mathlib.Core.List.{List}
use lib.{ListN.{length, get_or, take}, Seq.take-length}
use borrow.Author.Tests.{ne_eqb}
use Rattle.layout.specs.declared.Layout.{Layout}
use Rattle.opening.specs.Opening.{judgements, further, searched}
use Rattle.opening.proofs.SearchLaws.{searched_next}
use Rattle.header_claims.specs.Header.{IsHeader, Line, number, Keeps}
use Rattle.header_claims.specs.Opening.{Codes, candidate, kind_of, IsAccepted, FirstAccepted, FirstHeader, TellsAt, Allowed}
use Rattle.header_claims.proofs.Reflects.{below_suc}
use Rattle.header_claims.proofs.JudgementLaws.{number_bounds, Judgement, accepts, refuses, refuses4}
use Rattle.header_claims.proofs.CandidateLaws.{judge_at_says}
use Rattle.header_claims.proofs.ToldLaws.{Told, layout_tells}
use Rattle.std.specs.Prelude.{Ok}
use Rattle.answers.specs.Answers.{Answer, refuse}

module _ (candidates codes : List ℕ) (host_size : ℕ) where
  -- none of the first k is accepted
  abbrev pub NoneAccepted : ℕ → Type 0
  NoneAccepted k = (j : ℕ) → j < k → IsAccepted candidates codes host_size j → ⊥

  -- none of them is a header
  abbrev pub NoHeader : ℕ → Type 0
  NoHeader k = (j : ℕ) → j < k → IsHeader (candidate candidates j) → ⊥

  -- what an answer says of the first k candidates
  pub data Found (k : ℕ) : Answer Layout → Type 0 where
    an_accepted : (i : ℕ) (layout : Layout) → FirstAccepted candidates codes host_size i → TellsAt candidates codes host_size i layout
        → Found k (Ok layout)
    a_header : NoneAccepted k → (i : ℕ) (line : Line) → FirstHeader candidates codes host_size i line → Found k (refuse (number line))
    no_header : NoneAccepted k → NoHeader k → Found k (refuse 4)

  module _ (k : ℕ) (inside : k < length codes) where
    -- the candidate at k, where none before it is accepted: it is accepted itself
    takes : NoneAccepted k → IsHeader (candidate candidates k)
        → ((line : Line) → Keeps line (kind_of (get_or codes k 0)) host_size (candidate candidates k))
        → Found (suc k) (Ok (Told (kind_of (get_or codes k 0)) host_size k (candidate candidates k)))
    takes none r keeps =
        an_accepted k _ (record { accepted = record { inside = inside; is_header = r; keeps = keeps }; first = none })
        (layout_tells (kind_of (get_or codes k 0)) host_size k (candidate candidates k))

    -- one candidate more
    further_says : {answer next : Answer Layout} → Found k answer → Judgement (kind_of (get_or codes k 0)) host_size k (candidate candidates k) next
        → Found (suc k) (further answer next)
    unfolding further
    further_says (an_accepted i layout first told) judged = an_accepted i layout first told
    further_says (a_header none i line h) (accepts r keeps) = takes none r keeps
    further_says (a_header none i line h) (refuses r other breaks) =
        rw (ne_eqb (number line) 4 (omega (arith, number_bounds line))) (a_header (below_suc _ k none (λ a. breaks.broken (a.keeps other))) i line h)
    further_says (a_header none i line h) (refuses4 n) =
        rw (ne_eqb (number line) 4 (omega (arith, number_bounds line))) (a_header (below_suc _ k none (λ a. n a.is_header)) i line h)
    further_says (no_header none g) (accepts r keeps) = takes none r keeps
    further_says (no_header none g) (refuses r line breaks) =
        a_header (below_suc _ k none (λ a. breaks.broken (a.keeps line))) k line
        (record { inside = inside; is_header = r; first = g; breaks = breaks })
    further_says (no_header none g) (refuses4 n) = no_header (below_suc _ k none (λ a. n a.is_header)) (below_suc _ k g n)

  searched_says : Allowed candidates codes host_size → (k : ℕ) → k ≤ length codes → Found k (searched candidates host_size (take k codes))
  unfolding searched judgements Codes
  searched_says allowed zero h = no_header (λ j lt. absurd (omega arith)) (λ j lt. absurd (omega arith))
  searched_says allowed (suc k) h =
      let inside : k < length codes = omega arith in
      rw (rw add-one at (searched_next candidates host_size codes k inside))
      (further_says k inside (searched_says allowed k (omega arith))
      (judge_at_says candidates codes host_size k allowed.lengths inside (allowed.codes_known k inside)))

  pub search_says : Allowed candidates codes host_size → Found (length codes) (searched candidates host_size codes)
  search_says allowed = rw take-length at (searched_says allowed (length codes) (omega arith))
