-- `boundary_headers::write_header` meets its contract.
use Prim.Native.Nat.{ℕ}
use mathlib.Core.{List.List, Path.{◌≡◌, ap, ◌∙◌}}
use lib.ListN.{length}
use Rattle.header_writing.specs.HeaderWriting.{asked_layout, header_answer, header_left}
use Rattle.boundary_headers.proofs.write_header.Goals as goal
use Rattle.std.specs.Prelude.{⊤}
use Rattle.answers.specs.Answers.{Answer, refusal_number}

pub returns : goal.returns
returns c =
    let args = c.args in
    let salt : List ℕ = args.salt.now in
    let keys : List ℕ = args.keys.now in
    let header : List ℕ = args.header.now in
    let layout = asked_layout args.magic.now args.version args.min_program_version args.code args.host_size args.data_start args.data_size args.sector_size in
    let answer : c.write-written.result ≡ header_answer args.code layout (length salt) (length keys) (length header) = c.write-written.ensures.value in record { value = c.from.ensures ∙ c.refusal_number.ensures ∙ ap refusal_number answer; header_after = c.write-written.ensures.header_after ∙ ap (λ (written : Answer ⊤). header_left written layout salt keys header) answer }
