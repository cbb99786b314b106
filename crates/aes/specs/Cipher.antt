-- The cipher and its inverse (FIPS 197, 5.1 and 5.3) with fifteen round keys: what the contracts of `aes` cite. Assumes nothing.
use Rattle.std.specs.Prelude.{ℕ, zero, suc, List, [], get_or}
use Rattle.aes_words.specs.Words.{Words}
use Rattle.aes_steps.specs.{Blocks.{sub_bytes, inv_sub_bytes, shift_rows, inv_shift_rows, add_round_key}, Rounds.{round, inv_round}}
use Rattle.aes.specs.declared.Direction.{Direction, TheVariants.{Encipher, Decipher}}

-- round key r
unfoldable pub round_key : List Words → ℕ → Words
round_key keys r = get_or keys r []

-- rounds 1 to n
unfoldable pub rounds : List Words → ℕ → Words → Words
rounds keys zero s = s
rounds keys (suc n) s = round (round_key keys (suc n)) (rounds keys n s)

-- rounds n down to 1 of the inverse
unfoldable pub inv_rounds : List Words → ℕ → Words → Words
inv_rounds keys zero s = s
inv_rounds keys (suc n) s = inv_rounds keys n (inv_round (round_key keys (suc n)) s)

-- the cipher: round key 0, thirteen rounds, and a last one without MixColumns
unfoldable pub cipher : List Words → Words → Words
cipher keys s = add_round_key (round_key keys 14) (shift_rows (sub_bytes (rounds keys 13 (add_round_key (round_key keys 0) s))))

-- the inverse cipher: round key 14, thirteen rounds of the inverse, and a last one without InvMixColumns
unfoldable pub inv_cipher : List Words → Words → Words
inv_cipher keys s = add_round_key (round_key keys 0) (inv_sub_bytes (inv_shift_rows (inv_rounds keys 13 (add_round_key (round_key keys 14) s))))

-- a block that goes through the cipher, or through its inverse
unfoldable pub through_cipher : Direction → List Words → Words → Words
through_cipher Encipher keys s = cipher keys s
through_cipher Decipher keys s = inv_cipher keys s
