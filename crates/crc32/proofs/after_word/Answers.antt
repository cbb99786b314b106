-- `crc32::after_word` meets its contract: one entry of each table stands for a byte.
use mathlib.Core.Path.{ap, ◌∙◌}
use Prim.Native.Nat.{ℕ}
use lib.Bits.{bit_xor, xor_lt}
use native.Mathlib.Omega.{arith}
use Rattle.crc32.specs.Crc32.{bit_steps}
use Rattle.crc32.proofs.WordLaws.{word_spelt, word_looked_up}
use Rattle.crc32.proofs.after_word.Goals as goal

pub returns : goal.returns
returns c =
    let word = c.from_le_bytes.result in
    let crc = c.args.crc in
    let m : ℕ = bit_xor word crc in
    rw (c.crc_tables-tables.ensures, c.from.ensures, c.from-2.ensures, c.from-3.ensures, c.from-4.ensures, c.to_le_bytes.ensures)
    (word_looked_up m (xor_lt 32 word crc (omega arith) (omega arith))
    ∙ ap (λ (n : ℕ). bit_steps 32 (bit_xor n crc)) (c.from_le_bytes.ensures ∙ word_spelt c.args.word.now (omega arith)))
