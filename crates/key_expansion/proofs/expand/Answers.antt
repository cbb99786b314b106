-- `key_expansion::expand` meets its contract.
use mathlib.Core.Path.{ap, ◌∙◌}
use Rattle.aes_words.specs.Words.{in_fours}
use Rattle.key_expansion.specs.KeyExpansion.{round_keys}
use Rattle.key_expansion.proofs.expand.Goals as goal

pub returns : goal.returns
unfolding round_keys
returns c tables = c.in_fours.ensures ∙ ap (in_fours 15) (c.words.ensures tables)
