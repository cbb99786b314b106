-- `aes::convert_block` meets its contract, by the ways.
use Rattle.aes.specs.Cipher.{through_cipher}
use Rattle.aes.proofs.convert_block.Goals as goal

pub returns-in-Encipher : goal.returns-in-Encipher
unfolding through_cipher
returns-in-Encipher c tables = rw c.in-Encipher.is (c.encipher_block.ensures tables)

pub returns-in-Decipher : goal.returns-in-Decipher
unfolding through_cipher
returns-in-Decipher c tables = rw c.in-Decipher.is (c.decipher_block.ensures tables)
