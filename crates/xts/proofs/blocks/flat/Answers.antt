-- `xts::blocks::flat` meets its contract.
use Rattle.std.proofs.Common.{rules}
use Rattle.aes_words.proofs.MadeLaws.{made}
use Rattle.aes_steps.specs.Blocks.{byte_at, block_byte, bytes_of}
use Rattle.xts.proofs.blocks.flat.Goals as goal

pub returns : goal.returns
unfolding bytes_of block_byte byte_at
returns c =
    let items = c.from_fn.ensures.items in
    made (block_byte c.args.block) 0 16 c.from_fn.result items.long (λ i h. let call = items.at i 0 h in search rules)
