-- `header_writing::write` meets its contract: what is judged and written is the layout that is asked for.
use Prim.Native.Nat.{ℕ}
use mathlib.Core.{List.List, Path.{◌≡◌, ap, ◌∙◌}}
use lib.ListN.{length}
use Rattle.layout.specs.declared.Layout.{Layout}
use Rattle.locations.specs.Locations.{location_of}
use Rattle.header_format.specs.Format.{magic_number}
use Rattle.header_writing.specs.HeaderWriting.{asked_layout, header_answer, header_left}
use Rattle.header_writing.proofs.write.Goals as goal

pub returns : goal.returns
unfolding asked_layout
returns c =
    let args = c.args in
    let salt : List ℕ = args.salt.now in
    let keys : List ℕ = args.keys.now in
    let header : List ℕ = args.header.now in
    let kind-is : c.kind_of.result ≡ (location_of args.code).kind = c.kind_of.ensures in
    let magic-is : c.magic_number.result ≡ magic_number args.magic = c.magic_number.ensures in
    let version-is : c.from.result ≡ args.version = c.from.ensures in
    let min-is : c.from-2.result ≡ args.min_program_version = c.from-2.ensures in
    let asked = asked_layout args.magic args.version args.min_program_version args.code args.host_size args.data_start args.data_size args.sector_size in
    let built : Layout =
    record {
      host_size = args.host_size;
      kind = c.kind_of.result;
      magic = c.magic_number.result;
      version = c.from.result;
      min_program_version = c.from-2.result;
      data_start = args.data_start;
      data_size = args.data_size;
      candidate = 0;
      sector_size = args.sector_size;
    } in
    let same : built ≡ asked =
    λ i. record {
      host_size = args.host_size;
      kind = kind-is i;
      magic = magic-is i;
      version = version-is i;
      min_program_version = min-is i;
      data_start = args.data_start;
      data_size = args.data_size;
      candidate = 0;
      sector_size = args.sector_size;
    } in record {
      value = c.write_layout.ensures.value
          ∙ ap (λ (layout : Layout). header_answer args.code layout (length salt) (length keys) (length header)) same;
      header_after = c.write_layout.ensures.header_after ∙ ap (λ (layout : Layout). header_left c.write_layout.result layout salt keys header) same;
    }
