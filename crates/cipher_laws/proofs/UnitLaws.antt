-- A unit that goes one way and then the other is the unit again. Assumes nothing.
use Prim.Native.Nat.{ℕ}
use mathlib.Core.{Path.◌≡◌, List.List}
use lib.ListN.{length, take, drop}
use Rattle.bits.specs.Bits.{Bytes}
use Rattle.bits.proofs.BytesLaws.{bytes_take, bytes_drop}
use Rattle.aes.specs.{Cipher.through_cipher, declared.Direction.{Direction, TheVariants.{Encipher, Decipher}}}
use Rattle.xts.specs.Units.{first_tweak, converted_by, data_keys, tweak_keys, converted, enciphered, deciphered}
use Rattle.mix_laws.specs.Blocks.{Small, Undone}
use Rattle.cipher_laws.specs.Directions.{opposite}
use Rattle.cipher_laws.proofs.BlocksUnderLaws.{blocks_bytes, blocks_back}
use Rattle.cipher_laws.proofs.{CipherLaws.through_undone, KeyLaws.round_key_small, TweakLaws.first_tweak_small}

module _ (direction : Direction) (key : List ℕ) (number : ℕ) (unit : List ℕ) (key_bytes : Bytes key) (whole : length unit ≡ 512) (bytes : Bytes unit) where
  undone : Undone (through_cipher direction (data_keys key)) (through_cipher (opposite direction) (data_keys key))
  unfolding data_keys
  undone = through_undone (data_keys key) (round_key_small (take 32 key) (bytes_take 32 key key_bytes)) direction

  tweak : Small (first_tweak (tweak_keys key) number)
  unfolding tweak_keys
  tweak = first_tweak_small (tweak_keys key) (round_key_small (drop 32 key) (bytes_drop 32 key key_bytes)) number

  pub converted_bytes : Bytes (converted direction key number unit)
  unfolding converted converted_by
  converted_bytes = blocks_bytes undone 32 (first_tweak (tweak_keys key) number) tweak unit whole bytes

  pub converted_back : converted (opposite direction) key number (converted direction key number unit) ≡ unit
  unfolding converted converted_by
  converted_back = blocks_back undone 32 (first_tweak (tweak_keys key) number) tweak unit whole bytes

pub deciphered_enciphered : (key : List ℕ) (number : ℕ) (unit : List ℕ) → Bytes key → length unit ≡ 512 → Bytes unit
    → deciphered key number (enciphered key number unit) ≡ unit
deciphered_enciphered = converted_back Encipher

pub enciphered_deciphered : (key : List ℕ) (number : ℕ) (unit : List ℕ) → Bytes key → length unit ≡ 512 → Bytes unit
    → enciphered key number (deciphered key number unit) ≡ unit
enciphered_deciphered = converted_back Decipher
