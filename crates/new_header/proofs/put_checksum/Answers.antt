-- `new_header::put_checksum` meets its contract.
use Prim.Native.Nat.{ℕ}
use mathlib.Core.{List.List, Path.{ap, ◌∙◌}}
use Rattle.fields.specs.Bytes.{overlay}
use Rattle.numbers.specs.Numbers.{big_endian_bytes}
use Rattle.crc32.specs.Crc32.{crc32}
use Rattle.new_header.specs.NewHeader.{summed}
use Rattle.new_header.proofs.put_checksum.Goals as goal

pub returns : goal.returns
unfolding summed
returns c =
    let header : List ℕ = c.args.header.now in
    let into = c.args.into in
    c.put_number.ensures
    ∙ ap (λ (n : ℕ). overlay into.offset (big_endian_bytes into.size n) header) (c.from.ensures ∙ c.checksum-checksum.ensures ∙ ap crc32 c.field_bytes.ensures)
