-- `map_output::decimal` meets its contract: the digits are those that the library prints.
use mathlib.Core.{Path.{◌∙◌, ap}, List.{List, ◌++◌, append-nil}}
use Prim.Native.Nat.{ℕ, ◌≤◌, ◌<◌}
use native.Mathlib.Omega.{arith}
use borrow.Author.Rules.{rules}
use lib.ListN.{length, drop_of_length-le}
use Rattle.std.specs.Fmt as printed
use Rattle.std.proofs.lemmas.Fmt.{length-decimal-le, decimal_nonempty}
use Rattle.map_output.proofs.DigitLaws.{decimal_printed}
use Rattle.map_output.proofs.decimal.Goals as goal

pub write_digits-requires : goal.write_digits-requires
write_digits-requires c = (search (rules, length-decimal-le 20), omega arith)

pub returns : goal.returns
returns c =
    let number : ℕ = c.args.number in
    let some : 0 < length (printed.decimal number) = decimal_nonempty number (omega arith) in
    let none : length c.args.digits.now ≤ 20 = omega arith in
    record {
      size = search rules;
      start = omega (arith, some, c.write_digits.ensures.start);
      content =
          c.write_digits.ensures.written
          ∙ ap (λ (rest : List ℕ). printed.decimal number ++ rest) (drop_of_length-le c.args.digits.now none)
          ∙ append-nil (printed.decimal number)
          ∙ decimal_printed number (omega arith);
    }
