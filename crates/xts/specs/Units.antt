-- XTS-AES-256 (IEEE 1619, 5.2 to 5.4) on units of 512 bytes, which are 32 blocks. Of a key of 64 bytes the first half keys the data, the
-- second the tweak. Assumes nothing.
use Rattle.std.specs.Prelude.{ℕ, zero, suc, List, [], ◌++◌, take, drop}
use Rattle.numbers.specs.Numbers.{little_endian_bytes}
use Rattle.aes_words.specs.Words.{Words, in_fours}
use Rattle.aes_steps.specs.Blocks.{bytes_of, add_round_key}
use Rattle.key_expansion.specs.KeyExpansion.{round_keys}
use Rattle.xts_tweaks.specs.Tweaks.{times_alpha}
use Rattle.aes.specs.Cipher.{cipher, through_cipher}
use Rattle.aes.specs.declared.Direction.{Direction, TheVariants.{Encipher, Decipher}}

-- the sixteen bytes of a tweak number, the least significant first
unfoldable pub tweak_bytes : ℕ → List ℕ
tweak_bytes number = little_endian_bytes 16 number

-- a block through a cipher, under a tweak: the tweak is added before and after
unfoldable pub under_tweak : (Words → Words) → Words → Words → Words
under_tweak through t s = add_round_key t (through (add_round_key t s))

-- n blocks of bytes: the first under a tweak, and each later one under α times the tweak before
unfoldable pub blocks_under : (Words → Words) → ℕ → Words → List ℕ → List ℕ
blocks_under through zero t bytes = []
blocks_under through (suc n) t bytes = bytes_of (under_tweak through t (in_fours 4 bytes)) ++ blocks_under through n (times_alpha t) (drop 16 bytes)

-- the tweak of a unit's first block: the bytes of the tweak number, enciphered
unfoldable pub first_tweak : List Words → ℕ → Words
first_tweak keys number = cipher keys (in_fours 4 (tweak_bytes number))

-- a unit that goes one way, with the round keys for data and those for tweaks
unfoldable pub converted_by : Direction → List Words → List Words → ℕ → List ℕ → List ℕ
converted_by direction for_data for_tweaks number unit = blocks_under (through_cipher direction for_data) 32 (first_tweak for_tweaks number) unit

-- the round keys of a key's two halves: the first 32 bytes are for data, the others for tweaks
unfoldable pub data_keys : List ℕ → List Words
data_keys key = round_keys (take 32 key)

unfoldable pub tweak_keys : List ℕ → List Words
tweak_keys key = round_keys (drop 32 key)

-- a unit that goes one way with a key
unfoldable pub converted : Direction → List ℕ → ℕ → List ℕ → List ℕ
converted direction key number unit = converted_by direction (data_keys key) (tweak_keys key) number unit

-- a unit enciphered, and deciphered
abbrev pub enciphered : List ℕ → ℕ → List ℕ → List ℕ
enciphered = converted Encipher

abbrev pub deciphered : List ℕ → ℕ → List ℕ → List ℕ
deciphered = converted Decipher
