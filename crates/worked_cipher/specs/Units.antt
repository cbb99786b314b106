-- Worked cases of the cipher (RULES.md, Worked cases), over the definitions that the contracts cite. Assumes nothing.
use Rattle.std.specs.Prelude.{ℕ, ◌%◌, List, [], ◌∷◌, ◌++◌, take}
use Rattle.bits.specs.{Bits.entries, Cases.Rows}
use Rattle.numbers.specs.Numbers.{big_endian_bytes}
use Rattle.xts.specs.Units.{enciphered}

-- the key of IEEE 1619's vectors for AES-256: its half for the data, and its half for the tweaks
unfoldable pub published_key : List ℕ
published_key =
    big_endian_bytes 32 0x2718281828459045235360287471352662497757247093699959574966967627
    ++ big_endian_bytes 32 0x3141592653589793238462643383279502884197169399375105820974944592

-- enciphering: of its vector 10, the first two blocks, between which the tweak is reduced
unfoldable pub cipher_cases : Rows
cipher_cases = (
  take 32 (enciphered published_key 0xFF (entries (λ k. k % 256) 512 0)),
  big_endian_bytes 32 0x1C3B3A102F770386E4836C99E370CF9BEA00803F5E482357A4AE12D414A3E63B,
) ∷ []
