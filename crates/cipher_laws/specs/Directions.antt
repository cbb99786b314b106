-- The direction that undoes a direction. Assumes nothing.
use Rattle.aes.specs.declared.Direction.{Direction, TheVariants.{Encipher, Decipher}}

abbrev pub opposite : Direction → Direction
opposite Encipher = Decipher
opposite Decipher = Encipher
