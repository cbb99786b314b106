-- `crc32::checksum` meets its contract: the register goes on from the words to the bytes behind them.
use mathlib.Core.{Path.{◌≡◌, ap, ◌∙◌}, List.List}
use Prim.Native.Nat.{ℕ, ◌*◌, ◌/◌}
use native.Mathlib.Omega.{arith}
use borrow.Author.Rules.{rules}
use lib.{Bits.bit_xor, ListN.{length, drop}}
use Rattle.std.specs.{List.{fold}, Simd.{first_chunks}}
use Rattle.bits.proofs.BytesLaws.{bytes_every}
use Rattle.crc32.specs.Crc32.{crc_from, crc32}
use Rattle.crc32.proofs.WordLaws.{byte_after, word_after, bytes_after, words_after, crc_from_parts}
use Rattle.crc32.proofs.checksum.Goals as goal

pub returns : goal.returns
unfolding crc32
returns c =
    let bytes : List ℕ = c.args.bytes.now in
    let k : ℕ = length bytes / 4 in
    let words : c.fold-crc.result ≡ fold word_after 0xFFFFFFFF (first_chunks 4 k bytes) = search rules in
    let rest : c.fold.result ≡ fold byte_after c.fold-crc.result (drop (k * 4) bytes) = search rules in
    ap (bit_xor 0xFFFFFFFF)
    (rest
    ∙ bytes_after c.fold-crc.result (drop (k * 4) bytes)
    ∙ ap (λ (crc : ℕ). crc_from crc (drop (k * 4) bytes))
    (words ∙ words_after k 0xFFFFFFFF bytes (omega arith) (bytes_every bytes (λ i. (c.type_inv.bytes i).fits)))
    ∙ crc_from_parts bytes (k * 4) 0xFFFFFFFF)
