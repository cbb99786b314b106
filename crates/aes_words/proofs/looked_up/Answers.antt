-- `aes_words::looked_up` meets its contract.
use Rattle.std.proofs.Common.{rules, get_or}
use Rattle.aes_words.specs.Words.{word, each_byte}
use Rattle.aes_words.proofs.MadeLaws.{made}
use Rattle.aes_words.proofs.looked_up.Goals as goal

pub returns : goal.returns
unfolding each_byte word
returns c f table =
    let items = c.map.ensures.items in
    made (λ r. f (get_or c.args.w r 0)) 0 4 c.map.result items.long (λ i h. let call = items.at i 0 0 h in search rules)
