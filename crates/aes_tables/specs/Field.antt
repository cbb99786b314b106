-- The field of 256 elements (FIPS 197, 4): a byte is a polynomial, modulo x^8 + x^4 + x^3 + x + 1. Its sum is `bit_xor`. Assumes nothing.
use Rattle.std.specs.Prelude.{ℕ, zero, suc, ◌*◌, ◌/◌, ◌%◌}
use Rattle.std.specs.Int.Bits.{bit_xor}

-- x times a byte: its bits move up, and the polynomial 11B is taken away where bit 7 was set
unfoldable pub times_x : ℕ → ℕ
times_x a = bit_xor (a * 2) (a / 128 % 2 * 0x11B)

-- a byte where a bit is set
unfoldable pub where_set : ℕ → ℕ → ℕ
where_set zero a = 0
where_set (suc bit) a = a

-- the sum, over the set bits i of the first n of a factor, of x^i times a byte
unfoldable pub product_of : ℕ → ℕ → ℕ → ℕ
product_of zero factor a = 0
product_of (suc n) factor a = bit_xor (where_set (factor % 2) a) (product_of n (factor / 2) (times_x a))

-- the product of two bytes
unfoldable pub product : ℕ → ℕ → ℕ
product factor a = product_of 8 factor a

-- the product of n squares, each of the one before it
unfoldable pub squares : ℕ → ℕ → ℕ
squares zero a = 1
squares (suc n) a = let square : ℕ = product a a in product square (squares n square)

-- the inverse of a byte, and 0 of 0: its power 254, which is 2 + 4 + .. + 128
unfoldable pub inverse : ℕ → ℕ
inverse a = squares 7 a
