-- `byte_tests::is_zero` meets its contract: both tests decide whether each byte is zero.
use borrow.Author.Rules.{rules}
use Rattle.std.proofs.lemmas.Bool.Decides.{same_from_decides}
use Rattle.byte_tests.proofs.BytesLaws.{all_zero_decides}
use Rattle.byte_tests.proofs.is_zero.Goals as goal

pub returns : goal.returns
returns c = same_from_decides _ _ (search rules) (all_zero_decides c.args.bytes.now)
