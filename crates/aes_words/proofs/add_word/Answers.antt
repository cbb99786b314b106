-- `aes_words::add_word` meets its contract.
use Rattle.std.proofs.Common.{rules, get_or, bit_xor}
use Rattle.aes_words.specs.Words.{word, add_word}
use Rattle.aes_words.proofs.MadeLaws.{made}
use Rattle.aes_words.proofs.add_word.Goals as goal

pub returns : goal.returns
unfolding add_word word
returns c =
    made (λ r. bit_xor (get_or c.args.w r 0) (get_or c.args.v r 0)) 0 4 c.from_fn.result c.from_fn.ensures.items.long (λ i h. let call = c.from_fn.ensures.items.at i 0 h in search rules)
