-- `key_expansion::turn` meets its contract.
use Rattle.std.proofs.Common.{ap, ap₂, ◌∙◌}
use Rattle.aes_words.specs.Words.{sub_word, add_word}
use Rattle.key_expansion.proofs.ExpansionLaws.{turned_eighth}
use Rattle.key_expansion.proofs.turn.Goals as goal

pub returns-in-0 : goal.returns-in-0
returns-in-0 c tables =
    c.add_word.ensures
    ∙ ap₂ add_word (c.sub_word.ensures tables ∙ ap sub_word c.rot_word.ensures) c.round_constant.ensures
    ∙ turned_eighth _ _ c.in-0.is
