-- `new_header::fill` meets its contract, one after the other.
use mathlib.Core.Path.{◌≡◌, refl}
use borrow.Author.Rules.{rules}
use lib.ListN.{replicate}
use Rattle.new_header.specs.NewHeader.{contents, laid, new_header}
use Rattle.new_header.proofs.fill.Goals as goal

pub returns : goal.returns
unfolding new_header contents laid
returns c =
    let zeros : c.fill.new.self ≡ replicate 512 0 = search rules in
    rw (
      c.put_checksum-2.ensures,
      c.put_checksum.ensures,
      c.put_numbers.ensures,
      c.new_fields.ensures,
      c.put-3.ensures,
      c.put-2.ensures,
      c.magic_bytes.ensures,
      c.put.ensures,
      zeros,
    ) refl
