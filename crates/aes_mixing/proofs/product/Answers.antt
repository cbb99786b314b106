-- `aes_mixing::product` meets its contract.
use Rattle.std.proofs.Common.{◌/◌, ◌%◌, bit_xor, ap, ap₂, ◌∙◌}
use Rattle.aes_tables.specs.Field.{times_x, where_set}
use Rattle.aes_mixing.proofs.FieldLaws.{product_of_bits}
use Rattle.aes_mixing.proofs.product.Goals as goal

pub returns : goal.returns
returns g c =
    let factor = g.row.FACTOR in
    let e2 = c.times_x-a2.ensures in
    let e4 = c.times_x-a4.ensures ∙ ap times_x e2 in
    let e8 = c.times_x-a8.ensures ∙ ap times_x e4 in
    let set2 = c.where_set-2.ensures ∙ ap (where_set (factor / 2 % 2)) e2 in
    let set4 = c.where_set-3.ensures ∙ ap (where_set (factor / 4 % 2)) e4 in
    let set8 = c.where_set-4.ensures ∙ ap (where_set (factor / 8 % 2)) e8 in
    ap₂ bit_xor c.where_set.ensures (ap₂ bit_xor set2 (ap₂ bit_xor set4 set8)) ∙ product_of_bits factor c.args.a c.requires
