-- The worked cases of the cipher hold: antt computes both sides. Assumes nothing.
use mathlib.Core.Path.{refl}
use Rattle.bits.specs.{Bits.entries, Cases.Right}
use Rattle.numbers.specs.Numbers.{big_endian_bytes, little_endian_bytes}
use Rattle.aes_tables.specs.Field.{times_x, where_set, product_of, product, squares, inverse}
use Rattle.aes_tables.specs.SBox.{bit, byte_of, affine, substituted}
use Rattle.aes_steps.specs.Blocks.{byte_at, block, block_byte, bytes_of, sub_bytes, shift_rows, add_round_key}
use Rattle.aes_words.specs.Words.{word, each_byte, in_fours}
use Rattle.aes_mixing.specs.Mixing.{mixed, mixed_word, each_column, mix_columns}
use Rattle.aes_words.specs.Words.{sub_word, add_word}
use Rattle.key_expansion.specs.KeyExpansion.{rot_word, power_of_x, round_constant, turned, next_word, grown, round_keys}
use Rattle.aes_steps.specs.Rounds.{round}
use Rattle.aes.specs.Cipher.{round_key, rounds, cipher, through_cipher}
use Rattle.xts.specs.Units.{tweak_bytes, under_tweak, blocks_under, first_tweak, converted_by, data_keys, tweak_keys, converted}
use Rattle.xts_tweaks.specs.Tweaks.{raised, alpha_byte, times_alpha}
use Rattle.worked_cipher.specs.Units.{published_key, cipher_cases}

pub cipher_rows : Right cipher_cases
unfolding cipher_cases published_key big_endian_bytes little_endian_bytes converted converted_by data_keys tweak_keys first_tweak tweak_bytes
    blocks_under under_tweak times_alpha alpha_byte raised through_cipher cipher rounds round_key round
    round_keys grown next_word turned round_constant power_of_x add_word rot_word sub_word in_fours bytes_of block_byte block word each_byte each_column
    add_round_key mix_columns mixed_word mixed shift_rows sub_bytes byte_at substituted affine byte_of bit inverse squares product product_of where_set times_x entries
cipher_rows = refl
