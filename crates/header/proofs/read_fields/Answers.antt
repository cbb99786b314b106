-- `header::read_fields` meets its contract, field by field.
use mathlib.Core.Path.{◌≡◌}
use Rattle.numbers.specs.Numbers.{big_endian}
use Rattle.fields.specs.Bytes.{field_part}
use Rattle.header_format.specs.Format.{version_field, min_program_version_field, hidden_size_field, data_size_field, data_start_field}
use Rattle.header_format.specs.Format.{encrypted_size_field, flags_field, sector_size_field}
use Rattle.header.specs.Header.{fields_of}
use Rattle.header.proofs.read_fields.Goals as goal

pub returns : goal.returns
unfolding fields_of
returns c =
    let h = c.args.candidate.now in
    let v-is : c.number.result ≡ big_endian (field_part version_field h) = c.number.ensures in
    let p-is : c.number-2.result ≡ big_endian (field_part min_program_version_field h) = c.number-2.ensures in
    let hs-is : c.number-3.result ≡ big_endian (field_part hidden_size_field h) = c.number-3.ensures in
    let ds-is : c.number-4.result ≡ big_endian (field_part data_size_field h) = c.number-4.ensures in
    let o_is : c.number-5.result ≡ big_endian (field_part data_start_field h) = c.number-5.ensures in
    let e-is : c.number-6.result ≡ big_endian (field_part encrypted_size_field h) = c.number-6.ensures in
    let fl-is : c.number-7.result ≡ big_endian (field_part flags_field h) = c.number-7.ensures in
    let z-is : c.number-8.result ≡ big_endian (field_part sector_size_field h) = c.number-8.ensures in
    λ i. record {
      version = v-is i;
      min_program_version = p-is i;
      hidden_size = hs-is i;
      data_size = ds-is i;
      data_start = o_is i;
      encrypted_size = e-is i;
      flags = fl-is i;
      sector_size = z-is i;
    }
