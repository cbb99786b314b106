-- A test by a difference, which cannot wrap, is the test of the rule by sums; and what a pair that nests says of its layouts.
-- Assumes nothing.
use Prim.Native.Nat.{ℕ, ◌+◌, ◌-◌, ◌≤◌}
use native.Mathlib.Omega.{arith}
use mathlib.Core.Path.{◌≡◌, sym, ◌∙◌}
use mathlib.Core.Bool.{true, true≢false, ◌&&◌}
use lib.Dec.{leb}
use Rattle.answers.proofs.AnswerLaws.{line_accepted}
use Rattle.layout.specs.{Rules.sound, declared.Layout.Layout}
use Rattle.layout.proofs.RuleLaws.{and_true_right}
use Rattle.layout.proofs.TestLaws.{leb_iff}
use Rattle.pairing.specs.Pairs.{paired}
use Rattle.std.specs.Prelude.{Ok, ⊤}
use Rattle.answers.specs.Answers.{Answer}

pub leb_sub_add : (start size outer_start outer_size : ℕ) → outer_start ≤ start
    → leb (start - outer_start + size) outer_size ≡ leb (start + size) (outer_start + outer_size)
leb_sub_add start size outer_start outer_size h =
    leb_iff (start - outer_start + size) outer_size (start + size) (outer_start + outer_size) (λ k. omega arith) (λ k. omega arith)

-- a pair that can be protected has a sound second layout
pub pair_hidden_sound : (outer hidden_layout : Layout) {pair : Answer ⊤} → pair ≡ paired outer hidden_layout → pair ≡ Ok tt
    → sound hidden_layout ≡ true
unfolding paired
pair_hidden_sound outer hidden_layout checked e =
    and_true_right (sound outer) (sound hidden_layout)
    (line_accepted 11 (sound outer && sound hidden_layout) _ (sym checked ∙ e)).0
