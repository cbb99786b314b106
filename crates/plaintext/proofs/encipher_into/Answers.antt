-- `plaintext::encipher_into` meets its contract.
use mathlib.Core.Path.{ap, ◌∙◌}
use Prim.Native.Nat.{ℕ, ◌+◌, ◌-◌}
use native.Mathlib.Omega.{arith}
use mathlib.Core.List.{List}
use lib.ListN.{length}
use borrow.Rule.Slice.PartMut.{put_mid}
use Rattle.plaintext.proofs.PlaintextLaws.{enciphered_in}
use Rattle.plaintext.proofs.encipher_into.Goals as goal

pub returns : goal.returns
returns c =
    let image : List ℕ = c.args.image.now in
    let buffer : List ℕ = c.args.buffer.now in
    let at = c.args.start in
    ap (put_mid at (at + length buffer - at) image) c.convert_run.ensures
    ∙ enciphered_in c.args.key image buffer at c.requires.inside_image c.requires.whole_sectors (omega arith)
