-- A test by a difference, which cannot wrap, is the test of the rule by a sum.
-- Assumes nothing.
use Prim.Native.Nat.{ℕ, ◌+◌, ◌-◌, ◌%◌, ◌≤◌, ◌<◌}
use native.Mathlib.Omega.{arith}
use mathlib.Core.Path.{◌≡◌, sym, ◌∙◌}
use lib.Dec.{leb}
use borrow.Author.Tests.{eq-eqb, le-leb, lt-ltb}
use Rattle.layout.specs.{Rules.{sector_bytes, standard}, declared.Layout.Layout}
use Rattle.layout.proofs.TestLaws.{leb_iff}
use Rattle.protection.specs.Protection.{area_end, protection_rule}
use Rattle.std.specs.Prelude.{Some}

pub leb_sub : (end start size : ℕ) → start ≤ end → leb (end - start) size ≡ leb end (start + size)
leb_sub end start size h = leb_iff (end - start) size end (start + size) (λ k. omega arith) (λ k. omega arith)

-- past the other tests of a range its end decides, counted from the data area's start
pub range_by_end : (layout : Layout) (first end : ℕ) → layout.kind ≡ standard → first % sector_bytes ≡ 0 → end % sector_bytes ≡ 0 → first < end
    → layout.data_start ≤ first → leb (end - layout.data_start) layout.data_size ≡ protection_rule layout (Some (first, end))
unfolding protection_rule area_end
range_by_end layout first end k f e some starts =
    leb_sub end layout.data_start layout.data_size (omega arith)
    ∙ sym (simp (eq-eqb _ _ k, eq-eqb _ _ f, eq-eqb _ _ e, lt-ltb _ _ some, le-leb _ _ starts))
