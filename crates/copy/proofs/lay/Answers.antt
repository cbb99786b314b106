-- `copy::lay` meets its contract: where there is room, as many bytes are copied over.
use mathlib.Core.{Path.{refl, sym, ap, ◌∙◌}, List.List}
use Prim.Native.Nat.{ℕ, ◌+◌, ◌-◌}
use native.Mathlib.Omega.{arith}
use lib.ListN.{length}
use borrow.Rule.Slice.PartMut.{put_mid}
use Rattle.fields.proofs.OverlayLaws.{part_laid}
use Rattle.copy.proofs.CopyLaws.{copied_fits}
use Rattle.copy.proofs.lay.Goals as goal

pub returns-then-at-to : goal.returns-then-at-to
returns-then-at-to c =
    let from : List ℕ = c.args.from.now in
    let to : List ℕ = c.args.to.now in
    let at = c.args.at in
    ap (put_mid at (at + length from - at) to) c.copy_from_slice.ensures.after
    ∙ part_laid at (length from) from to refl
    ∙ sym (copied_fits at from to (omega arith))
