-- `new_header::put_number` meets its contract.
use Prim.Native.Nat.{ℕ, ◌+◌, ◌-◌}
use mathlib.Core.{List.List, Path.{ap, ◌∙◌}}
use native.Mathlib.Omega.{arith}
use borrow.Rule.Slice.PartMut.{put_mid}
use Rattle.fields.proofs.OverlayLaws.{overlay_filled}
use Rattle.numbers.specs.Numbers.{big_endian_bytes}
use Rattle.numbers.proofs.WrittenLaws.{big_endian_bytes_length}
use Rattle.new_header.proofs.put_number.Goals as goal

pub returns : goal.returns
returns c =
    let header : List ℕ = c.args.header.now in
    let field = c.args.field in
    let spelt : ℕ → List ℕ = λ (n : ℕ). big_endian_bytes n c.args.number in
    ap (λ (bytes : List ℕ). put_mid field.offset (field.offset + field.size - field.offset) header bytes) c.write_big_endian.ensures
    ∙ overlay_filled field.offset field.size spelt header (λ n. big_endian_bytes_length n c.args.number) (omega arith)
