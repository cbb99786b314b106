-- `numbers::read_little_endian` meets its contract: it folds over the bytes from the last on, which spell less than 2^64 where they are at most eight.
use mathlib.Core.{Path.{◌≡◌, ◌∙◌}, List.{List, reverse}}
use Prim.Native.Nat.{ℕ}
use borrow.Author.Rules.{rules}
use Rattle.std.specs.List.{fold}
use lib.ListN.{length}
use Rattle.numbers.specs.Numbers.{little_endian, ReadAs}
use Rattle.numbers.proofs.{FoldLaws.{with_byte, little_endian_fold}, NumbersLaws.{little_endian_lt, read_as}}
use Rattle.numbers.proofs.read_little_endian.Goals as goal

pub returns : goal.returns
returns c =
    let bytes : List ℕ = c.args.bytes.now in
    let folded : c.fold.result ≡ fold with_byte 0 (reverse bytes) = search rules in
    let read : ReadAs (little_endian bytes) (length bytes) c.fold.result = read_as (folded ∙ little_endian_fold bytes) (little_endian_lt bytes (λ k. (c.type_inv.bytes k).fits)) in
    search (rules, read)
