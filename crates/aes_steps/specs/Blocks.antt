-- Blocks of sixteen bytes, and what a round does to one (FIPS 197, 3.4, 5.1 and 5.3). A block is its four columns, each four bytes: the
-- byte of row r and column c is byte r + 4c of the sixteen. Assumes nothing.
use Rattle.std.specs.Prelude.{ℕ, ◌+◌, ◌-◌, ◌/◌, ◌%◌, List, []}
use lib.{Bits.bit_xor, ListN.get_or}
use Rattle.bits.specs.Bits.{entries}
use Rattle.aes_tables.specs.SBox.{substituted, restored}
use Rattle.aes_words.specs.Words.{Words, word}

-- the byte of a block in a row and a column
unfoldable pub byte_at : Words → ℕ → ℕ → ℕ
byte_at s r c = get_or (get_or s c []) r 0

-- the block with these bytes, by row and column
unfoldable pub block : (ℕ → ℕ → ℕ) → Words
block f = entries (λ c. word (λ r. f r c)) 4 0

-- byte k of a block, and its sixteen bytes
unfoldable pub block_byte : Words → ℕ → ℕ
block_byte s k = byte_at s (k % 4) (k / 4)

unfoldable pub bytes_of : Words → List ℕ
bytes_of s = entries (block_byte s) 16 0

-- SubBytes, and its inverse: each byte by the S-box
unfoldable pub sub_bytes : Words → Words
sub_bytes s = block (λ r c. substituted (byte_at s r c))

unfoldable pub inv_sub_bytes : Words → Words
inv_sub_bytes s = block (λ r c. restored (byte_at s r c))

-- ShiftRows: row r moves r columns to the left, around; and its inverse, to the right
unfoldable pub shift_rows : Words → Words
shift_rows s = block (λ r c. byte_at s r ((c + r) % 4))

unfoldable pub inv_shift_rows : Words → Words
inv_shift_rows s = block (λ r c. byte_at s r ((c + 4 - r) % 4))

-- AddRoundKey: the sum with a round key, its own inverse
unfoldable pub add_round_key : Words → Words → Words
add_round_key key s = block (λ r c. bit_xor (byte_at s r c) (byte_at key r c))
