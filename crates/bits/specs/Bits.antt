-- Lists of bytes, and tables of a function's values: what `crc32` and AES are stated with. Assumes nothing.
use Rattle.std.specs.Prelude.{ℕ, zero, suc, ◌<◌, List, [], ◌∷◌}

-- every number of a list is a byte
abbrev pub Bytes : List ℕ → Type 0
Bytes [] = Unit
Bytes (b ∷ bs) = (b < 256) × Bytes bs

-- the n values f k, f (k + 1), ..
unfoldable pub entries : {A : Type 0} → (ℕ → A) → ℕ → ℕ → List A
entries f zero k = []
entries f (suc n) k = f k ∷ entries f n (suc k)
