-- `layout::is_in_place` meets its contract: a sum past 2^64 is past every host, another is the sum of the rule, and then the kinds one by one.
use Rattle.std.proofs.Common.{ℕ, ◌≡◌, ◌≤◌, ◌+◌, ◌-◌, leb, sym, arith, eq-eqb, ne_eqb, le-leb, rules}
use borrow.Author.Tests.{lt-leb}
use Rattle.layout.specs.Rules.{place_rule, headers_size}
use Rattle.layout.proofs.RuleLaws.{past_backups}
use Rattle.layout.proofs.TestLaws.{leb_iff}
use Rattle.layout.proofs.is_in_place.Goals as goal

-- where the sum did not wrap and the host has room for backups, the code's test of the end is the rule's
ends : (sum left start size host : ℕ) → sum ≡ start + size → left + headers_size ≡ host
    → leb sum left ≡ leb (start + size + headers_size) host
ends sum left start size host e room = leb_iff sum left (start + size + headers_size) host (λ h. omega arith) (λ h. omega arith)

pub returns-in_default : goal.returns-in_default
returns-in_default c = sym (past_backups c.args.layout (omega arith))

pub returns-in_default-checked_sub : goal.returns-in_default-checked_sub
returns-in_default-checked_sub c = sym (past_backups c.args.layout (omega arith))

pub returns-then-start-eq-HEADERS_SIZE : goal.returns-then-start-eq-HEADERS_SIZE
unfolding place_rule
returns-then-start-eq-HEADERS_SIZE c =
    simp (c.in-0.is, eq-eqb _ _ c.if-start-eq-HEADERS_SIZE.true) (ends _ _ _ _ _ (omega arith) (omega arith))

pub returns-else-start-eq-HEADERS_SIZE : goal.returns-else-start-eq-HEADERS_SIZE
unfolding place_rule
returns-else-start-eq-HEADERS_SIZE c = simp (c.in-0.is, ne_eqb _ _ c.if-start-eq-HEADERS_SIZE.false)

pub returns-then-start-ge-HEADERS_SIZE : goal.returns-then-start-ge-HEADERS_SIZE
unfolding place_rule
returns-then-start-ge-HEADERS_SIZE c =
    simp (c.in-1.is, le-leb _ _ c.if-start-ge-HEADERS_SIZE.true) (ends _ _ _ _ _ (omega arith) (omega arith))

pub returns-else-start-ge-HEADERS_SIZE : goal.returns-else-start-ge-HEADERS_SIZE
unfolding place_rule
returns-else-start-ge-HEADERS_SIZE c = simp (c.in-1.is, lt-leb _ _ c.if-start-ge-HEADERS_SIZE.false)

pub returns-in_default-kind : goal.returns-in_default-kind
unfolding place_rule
returns-in_default-kind c = search rules
