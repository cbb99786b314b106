-- `numbers::read_big_endian` meets its contract: it folds over the bytes, which spell less than 2^64 where they are at most eight.
use mathlib.Core.{Path.{◌≡◌, ◌∙◌}, List.List}
use Prim.Native.Nat.{ℕ}
use borrow.Author.Rules.{rules}
use Rattle.std.specs.List.{fold}
use Rattle.numbers.proofs.{FoldLaws.{with_byte, big_endian_fold}, NumbersLaws.{big_endian_lt, read_as}}
use Rattle.numbers.proofs.read_big_endian.Goals as goal

pub returns : goal.returns
returns c =
    let bytes : List ℕ = c.args.bytes.now in
    let folded : c.fold.result ≡ fold with_byte 0 bytes = search rules in
    read_as (folded ∙ big_endian_fold bytes) (big_endian_lt bytes (λ k. (c.type_inv.bytes k).fits))
