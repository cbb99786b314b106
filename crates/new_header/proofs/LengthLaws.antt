-- What the rule for the lengths says in numbers, and what is laid where it is kept. Assumes nothing.
use Prim.Native.Nat.{ℕ}
use mathlib.Core.{Path.{◌≡◌, refl}, Bool.{Bool, true, false, ◌&&◌, cond}, List.List}
use lib.{Dec.eqb, ListN.length}
use borrow.Author.Tests.{eqb-true}
use Rattle.layout.specs.declared.Layout.{Layout}
use Rattle.layout.proofs.RuleLaws.{and_true_left, and_true_right}
use Rattle.header_format.specs.Format.{new_lengths_rule}
use Rattle.new_header.specs.NewHeader.{new_header, header_over}

pub lengths_right : (salt_size keys_size header_size : ℕ) → new_lengths_rule salt_size keys_size header_size ≡ true
    → (salt_size ≡ 64) × ((keys_size ≡ 256) × (header_size ≡ 512))
unfolding new_lengths_rule
lengths_right salt_size keys_size header_size kept =
    let both = and_true_left (eqb salt_size 64 && eqb keys_size 256) (eqb header_size 512) kept in (
      eqb-true salt_size 64 (and_true_left (eqb salt_size 64) (eqb keys_size 256) both),
      (
        eqb-true keys_size 256 (and_true_right (eqb salt_size 64) (eqb keys_size 256) both),
        eqb-true header_size 512 (and_true_right (eqb salt_size 64 && eqb keys_size 256) (eqb header_size 512) kept),
      ),
    )

-- where the lengths are right the header is laid
pub over_fit : (layout : Layout) (salt keys before : List ℕ) → new_lengths_rule (length salt) (length keys) (length before) ≡ true
    → header_over layout salt keys before ≡ new_header layout salt keys
unfolding header_over
over_fit layout salt keys before kept = rw kept

-- where one is wrong nothing is
pub over_other : (layout : Layout) (salt keys before : List ℕ) → (new_lengths_rule (length salt) (length keys) (length before) ≡ true → ⊥)
    → header_over layout salt keys before ≡ before
unfolding header_over
over_other layout salt keys before broken =
    go (new_lengths_rule (length salt) (length keys) (length before)) broken
  where
    go : (kept : Bool) → (kept ≡ true → ⊥) → cond kept (new_header layout salt keys) before ≡ before
    go true broken = absurd (broken refl)
    go false broken = refl

pub lengths_kept : {salt_size keys_size header_size : ℕ} → salt_size ≡ 64 → keys_size ≡ 256 → header_size ≡ 512
    → new_lengths_rule salt_size keys_size header_size ≡ true
unfolding new_lengths_rule
lengths_kept salt keys header = rw (salt, keys, header)
