-- `new_header::new_fields` meets its contract, field by field.
use mathlib.Core.Path.{◌≡◌}
use Rattle.new_header.specs.NewHeader.{new_fields}
use Rattle.new_header.proofs.new_fields.Goals as goal

pub returns : goal.returns
unfolding new_fields
returns c =
    let layout = c.args.layout in
    let hidden : c.hidden_size.result ≡ (new_fields layout).hidden_size = c.hidden_size.ensures in
    λ i. record {
      version = layout.version;
      min_program_version = layout.min_program_version;
      hidden_size = hidden i;
      data_size = layout.data_size;
      data_start = layout.data_start;
      encrypted_size = layout.data_size;
      flags = 0;
      sector_size = layout.sector_size;
    }
