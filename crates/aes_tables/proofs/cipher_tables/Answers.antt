-- `aes_tables::cipher_tables` meets its contract: antt computes the entries of `cipher_tables`, and they are those of the constants.
use mathlib.Core.Path.{sym}
use Rattle.bits.specs.Bits.{entries}
use Rattle.aes_tables.specs.SBox.{bit, byte_of, affine, inverse_affine}
use Rattle.aes_tables.proofs.InverseLaws.{inverses}
use Rattle.aes_tables.proofs.TableLaws.{tables_looked_up}
use Rattle.aes_tables.proofs.cipher_tables.Goals as goal

pub returns : goal.returns
unfolding entries inverses affine inverse_affine bit byte_of
returns c = sym tables_looked_up
