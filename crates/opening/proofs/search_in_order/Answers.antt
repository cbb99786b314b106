-- `opening::search_in_order` meets its contract: each turn searches one candidate more, and the first acceptance is the answer.
use Prim.Native.Nat.{ℕ, ◌<◌, ◌+◌}
use native.Mathlib.Nat.{add-sub_cancel_left}
use native.Mathlib.Omega.{arith}
use mathlib.Core.Path.{◌≡◌, sym, ap, subst, ◌∙◌}
use mathlib.Core.List.{List}
use lib.{ListN.{length, take, get_or}, Seq.take-length}
use Rattle.std.specs.Prelude.{Err}
use Rattle.answers.specs.{Answers.{Answer, refuse}, declared.Refusal.Refusal}
use Rattle.answers.proofs.AnswerLaws.{ByNumber}
use Rattle.header.proofs.JudgeLaws.{judge_by_number}
use borrow.Author.Rules.{rules}
use Rattle.layout.specs.declared.Layout.{Layout}
use Rattle.locations.specs.Locations.{location_of, locations}
use Rattle.header.specs.Header.{judge}
use Rattle.opening.specs.Opening.{candidate_at, further, searched, judgements}
use Rattle.opening.proofs.CodeLaws.{codes_rule_at}
use Rattle.opening.proofs.SearchLaws.{searched_next, searched_accepted}
use Rattle.opening.proofs.search_in_order.Goals as goal

-- the search over one candidate more
next : (candidates codes : List ℕ) (host_size index : ℕ) {first : ℕ} {judged : Answer Layout} → index < length codes
    → searched candidates host_size (take index codes) ≡ refuse first
    → judged ≡ judge (location_of (get_or codes index 0)).kind host_size index (candidate_at index candidates)
    → searched candidates host_size (take (index + 1) codes) ≡ further (refuse first) judged
next candidates codes host_size index more before told = searched_next candidates host_size codes index more ∙ rw (before, ← told)

-- what the judgement refuses by is a number alone
by_number : (kind host_size index : ℕ) (h : List ℕ) {judged : Answer Layout} {refusal : Refusal} → judged ≡ judge kind host_size index h
    → judged ≡ Err refusal → judged ≡ refuse refusal.number
by_number kind host_size index h told e = e ∙ ap (λ (r : Refusal). Err r) (subst ByNumber (sym told ∙ e) (judge_by_number kind host_size index h))

pub loop-index-init : goal.loop-index-init
unfolding searched judgements
loop-index-init c = search rules

pub bounds-table-codes : goal.bounds-table-codes
bounds-table-codes c = omega (arith, codes_rule_at c.args.codes.now c.loop-index.index (omega arith) c.requires.codes_kept)

pub loop-index-preserved : goal.loop-index-preserved
unfolding candidate_at location_of locations
loop-index-preserved c = (
  omega arith,
  next c.args.candidates.now c.args.codes.now c.args.host_size c.loop-index.index (omega arith) c.loop-index.invariant.1
      (simp add-sub_cancel_left at c.judge.ensures)
      ∙ rw (by_number _ _ _ _ c.judge.ensures c.in-Err.is, ← c.first_refusal-first.ensures),
)

pub returns-then-index-codes : goal.returns-then-index-codes
returns-then-index-codes c =
    let args = c.args in
    let whole : c.loop-index.index ≡ length args.codes.now = omega arith in
    ap (λ (r : Refusal). Err r) c.new.ensures ∙ sym c.loop-index.invariant.1 ∙ rw (whole, take-length)

pub returns-in-Ok : goal.returns-in-Ok
unfolding further candidate_at location_of locations
returns-in-Ok c =
    sym
    (searched_accepted c.args.candidates.now c.args.host_size c.args.codes.now c.loop-index.index (omega arith) c.in-Ok.layout
    (next c.args.candidates.now c.args.codes.now c.args.host_size c.loop-index.index (omega arith) c.loop-index.invariant.1
    (simp add-sub_cancel_left at c.judge.ensures)
    ∙ rw c.in-Ok.is))
