-- `access::fill` meets its contract.
use Prim.Native.Nat.{ℕ}
use mathlib.Core.{List.List, Path.◌∙◌}
use Rattle.access.proofs.MovingLaws.{copy_out}
use Rattle.access.proofs.fill.Goals as goal

pub returns : goal.returns
returns c =
    let image : List ℕ = c.args.image.now in
    let buffer : List ℕ = c.args.buffer.now in
    c.lay.ensures ∙ copy_out image buffer c.args.start c.requires
