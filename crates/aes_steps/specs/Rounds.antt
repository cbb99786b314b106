-- The rounds of the cipher (FIPS 197, 5.1) and of its inverse (5.3). Assumes nothing.
use Rattle.aes_words.specs.Words.{Words}
use Rattle.aes_steps.specs.Blocks.{sub_bytes, inv_sub_bytes, shift_rows, inv_shift_rows, add_round_key}
use Rattle.aes_mixing.specs.Mixing.{mix_columns, inv_mix_columns}

-- one round, and one round of the inverse
unfoldable pub round : Words → Words → Words
round key s = add_round_key key (mix_columns (shift_rows (sub_bytes s)))

unfoldable pub inv_round : Words → Words → Words
inv_round key s = inv_mix_columns (add_round_key key (inv_sub_bytes (inv_shift_rows s)))
