-- `aes_mixing::mix` meets its contract.
use Rattle.std.proofs.Common.{ap₂, bit_xor}
use Rattle.aes_mixing.specs.Mixing.{mixed}
use Rattle.aes_mixing.proofs.mix.Goals as goal

pub returns : goal.returns
unfolding mixed
returns g c =
    ap₂ bit_xor (ap₂ bit_xor c.product.ensures c.product-2.ensures) (ap₂ bit_xor c.product-3.ensures c.product-4.ensures)
