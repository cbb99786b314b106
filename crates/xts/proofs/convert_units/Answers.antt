-- `xts::convert_units` meets its contract.
use Rattle.std.proofs.Common.{rules, ℕ, List, [], ◌≡◌, ◌/◌, length, get_or, ap, ap₂, ◌∙◌}
use Rattle.aes_words.specs.Words.{Words}
use Rattle.key_expansion.specs.KeyExpansion.{round_keys}
use Rattle.xts.specs.{Runs.in_units, Units.{converted_by, data_keys, tweak_keys, converted}}
use Rattle.xts.proofs.UnitLaws.{first_half, second_half}
use Rattle.xts.proofs.convert_units.Goals as goal

pub returns : goal.returns
unfolding converted data_keys tweak_keys
returns c =
    let a = c.args in
    let key : List ℕ = a.key in
    let from : List ℕ = a.from.now in
    let whole : length key ≡ 64 = search rules in
    let tables = c.cipher_tables-tables.ensures in
    let halves = c.as_chunks.ensures.front in
    let first = ap (λ (pieces : List (List ℕ)). get_or pieces 0 []) halves ∙ first_half key whole in
    let second = ap (λ (pieces : List (List ℕ)). get_or pieces 1 []) halves ∙ second_half key whole in
    c.convert_units.ensures
    ∙ ap₂ (λ (for_data for_tweaks : List Words). in_units (converted_by a.direction for_data for_tweaks) (length from / 512) a.number from)
    (c.expand-for_data.ensures tables ∙ ap round_keys first) (c.expand-for_tweaks.ensures tables ∙ ap round_keys second)
