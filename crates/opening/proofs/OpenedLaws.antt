-- What an acceptance tells: the lengths are allowed, and the layout's candidate is one of them.
-- Assumes nothing.
use Prim.Native.Nat.{ℕ, suc, ◌+◌, ◌*◌, ◌≤◌, ◌<◌}
use native.Mathlib.Omega.{arith}
use mathlib.Core.Path.{◌≡◌}
use mathlib.Core.Bool.{true, ◌&&◌}
use mathlib.Core.List.{List, [], ◌∷◌, foldl}
use lib.{Dec.{leb, eqb}, ListN.length}
use borrow.Author.Tests.{leb-true, eqb-true}
use Rattle.answers.specs.Answers.{Answer, refuse}
use Rattle.layout.specs.Rules.{host_size_rule}
use Rattle.layout.specs.declared.Layout.{Layout}
use Rattle.layout.proofs.RuleLaws.{and_true_left, and_true_right}
use Rattle.locations.specs.Locations.{location_of}
use Rattle.header_format.specs.Format.{header_bytes}
use Rattle.header.specs.Header.{judge}
use Rattle.answers.proofs.AnswerLaws.{refused_accepted, line_accepted}
use Rattle.header.proofs.JudgeLaws.{judge_candidate}
use Rattle.opening.specs.Opening.{max_candidates, lengths_rule, codes_rule, candidate_at, judgements, further, searched, opened}
use Rattle.std.specs.Prelude.{Ok, Err}

module _ (candidates codes : List ℕ) (kept : lengths_rule candidates codes ≡ true) where
  pub lengths_most : length codes ≤ max_candidates
  unfolding lengths_rule
  lengths_most =
      let some = leb 1 (length codes) in
      let most = leb (length codes) max_candidates in
      leb-true (length codes) max_candidates
      (and_true_right some most (and_true_left (some && most) (eqb (length candidates) (length codes * header_bytes)) kept))

  pub lengths_whole : length candidates ≡ length codes * header_bytes
  unfolding lengths_rule
  lengths_whole =
      eqb-true (length candidates) (length codes * header_bytes)
      (and_true_right (leb 1 (length codes) && leb (length codes) max_candidates) (eqb (length candidates) (length codes * header_bytes)) kept)

module _ (candidates : List ℕ) (host_size : ℕ) (layout : Layout) where
  -- an acceptance is the one so far, or that of the next candidate
  further_inside : (index : ℕ) (answer next : Answer Layout) → (answer ≡ Ok layout → layout.candidate < index)
      → (next ≡ Ok layout → index ≡ layout.candidate) → further answer next ≡ Ok layout → layout.candidate < suc index
  unfolding further
  further_inside index (Ok l) next before own e = omega (arith, before e)
  further_inside index (Err first) (Ok l) before own e = omega (arith, own e)
  further_inside index (Err first) (Err later) before own e = refused_accepted _ e

  search_inside : (index : ℕ) (answer : Answer Layout) (codes : List ℕ) → (answer ≡ Ok layout → layout.candidate < index)
      → foldl further answer (judgements candidates host_size index codes) ≡ Ok layout → layout.candidate < index + length codes
  unfolding judgements
  search_inside index answer [] before e = omega (arith, before e)
  search_inside index answer (code ∷ codes) before e =
      let next = judge (location_of code).kind host_size index (candidate_at index candidates) in
      let own = judge_candidate (location_of code).kind host_size index (candidate_at index candidates) layout in
      omega (arith, search_inside (suc index) (further answer next) codes (further_inside index answer next before own) e)

  pub searched_inside : (codes : List ℕ) → searched candidates host_size codes ≡ Ok layout → layout.candidate < length codes
  unfolding searched
  searched_inside codes e = omega (arith, search_inside 0 (refuse 4) codes (λ r. refused_accepted _ r) e)

  -- only the last of four answers accepts
  found : (codes : List ℕ) → opened candidates codes host_size ≡ Ok layout
      → (lengths_rule candidates codes ≡ true) × (searched candidates host_size codes ≡ Ok layout)
  unfolding opened
  found codes e =
      let past1 = line_accepted 1 (lengths_rule candidates codes) _ e in
      let past2 = line_accepted 2 (codes_rule codes) _ past1.1 in
      (past1.0, (line_accepted 3 (host_size_rule host_size) _ past2.1).1)

  -- the accepted candidate lies whole in the candidates, and they are few
  pub opened_inside : (codes : List ℕ) → opened candidates codes host_size ≡ Ok layout
      → (layout.candidate * header_bytes + header_bytes ≤ length candidates) × (length candidates ≤ max_candidates * header_bytes)
  opened_inside codes e =
      let f = found codes e in
      let inside : layout.candidate < length codes = searched_inside codes f.1 in
      let whole : length candidates ≡ length codes * header_bytes = lengths_whole candidates codes f.0 in
      let most : length codes ≤ max_candidates = lengths_most candidates codes f.0 in
      (omega arith, omega arith)
