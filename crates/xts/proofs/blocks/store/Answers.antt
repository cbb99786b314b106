-- `xts::blocks::store` meets its contract.
use Rattle.std.proofs.Common.{ℕ, List, ap, ◌∙◌, rules}
use Rattle.fields.specs.Bytes.{overlay}
use Rattle.copy.proofs.CopyLaws.{copied_fits}
use Rattle.xts.proofs.blocks.store.Goals as goal

pub returns : goal.returns
returns c =
    let bytes : List ℕ = c.args.bytes.now in
    let at = c.args.at in
    c.lay.ensures
    ∙ copied_fits at c.flat.result bytes (search rules)
    ∙ ap (λ (content : List ℕ). overlay at content bytes) c.flat.ensures
