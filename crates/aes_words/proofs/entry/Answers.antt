-- `aes_words::entry` meets its contract.
use Rattle.std.proofs.Common.{ℕ, List, ap, ◌∙◌, get_or}
use Rattle.bits.proofs.EntriesLaws.{entries_from_0}
use Rattle.aes_words.proofs.entry.Goals as goal

pub returns : goal.returns
returns c f table =
    let byte = c.args.byte in
    ap (λ (i : ℕ). get_or c.args.table.now i 0) c.from.ensures
    ∙ ap (λ (t : List ℕ). get_or t byte 0) table ∙ entries_from_0 f 0 256 byte c.ranges.byte.fits
