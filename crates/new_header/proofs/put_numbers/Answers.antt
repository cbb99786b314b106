-- `new_header::put_numbers` meets its contract, a number after the other.
use Prim.Native.Nat.{ℕ}
use mathlib.Core.{Path.{◌≡◌, refl, ap, ◌∙◌}, List.List}
use Rattle.fields.specs.{Bytes.overlay, declared.Field.Field}
use Rattle.numbers.specs.Numbers.{big_endian_bytes}
use Rattle.header_format.specs.Format.{version_field, min_program_version_field, hidden_size_field, data_size_field, data_start_field}
use Rattle.header_format.specs.Format.{encrypted_size_field, flags_field, sector_size_field}
use Rattle.new_header.specs.NewHeader.{number_contents, laid}
use Rattle.new_header.proofs.put_numbers.Goals as goal

-- one number more, laid over what the numbers before it have left
over : {bytes before after : List ℕ} (field : Field) (number : ℕ) → after ≡ overlay field.offset (big_endian_bytes field.size number) before
    → before ≡ bytes → after ≡ overlay field.offset (big_endian_bytes field.size number) bytes
over field number last others = last ∙ ap (overlay field.offset (big_endian_bytes field.size number)) others

pub returns : goal.returns
unfolding number_contents laid
returns c =
    let f = c.args.fields in
    over sector_size_field f.sector_size c.put_number-8.ensures
    (over flags_field f.flags c.put_number-7.ensures
    (over encrypted_size_field f.encrypted_size c.put_number-6.ensures
    (over data_start_field f.data_start c.put_number-5.ensures
    (over data_size_field f.data_size c.put_number-4.ensures
    (over hidden_size_field f.hidden_size c.put_number-3.ensures
    (over min_program_version_field f.min_program_version c.put_number-2.ensures
    (over version_field f.version c.put_number.ensures refl)))))))
