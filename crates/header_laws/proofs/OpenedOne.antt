-- Opening one candidate is judging it. Assumes nothing.
use Prim.Native.Nat.{ℕ}
use native.Mathlib.Omega.{arith}
use mathlib.Core.{Path.{◌≡◌, refl, ap, ◌∙◌}, Bool.true, List.{List, [], ◌∷◌}}
use lib.{ListN.length, Seq.take_all}
use borrow.Author.Tests.{eq-eqb}
use Rattle.layout.specs.Rules.{host_size_rule}
use Rattle.locations.specs.Locations.{code_rule, location_of}
use Rattle.header.specs.Header.{judge}
use Rattle.opening.specs.Opening.{lengths_rule, codes_rule, candidate_at, judgements, further, searched, opened}
use Rattle.std.specs.Prelude.{Ok, Err}
use Rattle.answers.specs.Answers.{Answer, refuse}
use Rattle.layout.specs.declared.Layout.{Layout}

-- after no header, the answer is that of the next candidate
further_first : (next : Answer Layout) → further (refuse 4) next ≡ next
unfolding further
further_first (Ok layout) = refl
further_first (Err refusal) = refl

first_candidate : (h : List ℕ) → length h ≡ 512 → candidate_at 0 h ≡ h
unfolding candidate_at
first_candidate h size = take_all 512 h (omega arith)

pub opened_one : (h : List ℕ) (code host_size : ℕ) → length h ≡ 512 → code_rule code ≡ true → host_size_rule host_size ≡ true
    → opened h (code ∷ []) host_size ≡ judge (location_of code).kind host_size 0 h
unfolding opened lengths_rule codes_rule searched judgements
opened_one h code host_size size known host =
    simp (eq-eqb (length h) 512 size, known, host)
    (further_first (judge (location_of code).kind host_size 0 (candidate_at 0 h)) ∙ ap (judge (location_of code).kind host_size 0) (first_candidate h size))
