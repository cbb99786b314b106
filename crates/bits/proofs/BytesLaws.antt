-- Lists of bytes: their parts, and lists put together of them. Assumes nothing.
use Prim.Native.Nat.{ℕ, zero, suc, ◌<◌}
use native.Mathlib.Nat.{zero-lt-suc}
use mathlib.Core.List.{List, [], ◌∷◌, ◌++◌}
use lib.ListN.{get_or, take, drop, replicate}
use Rattle.bits.specs.Bits.{Bytes}

pub bytes_take : (n : ℕ) (bs : List ℕ) → Bytes bs → Bytes (take n bs)
bytes_take zero bs h = tt
bytes_take (suc n) [] h = tt
bytes_take (suc n) (b ∷ bs) h = (h.0, bytes_take n bs h.1)

pub bytes_drop : (n : ℕ) (bs : List ℕ) → Bytes bs → Bytes (drop n bs)
bytes_drop zero bs h = h
bytes_drop (suc n) [] h = tt
bytes_drop (suc n) (b ∷ bs) h = bytes_drop n bs h.1

pub bytes_append : (xs bs : List ℕ) → Bytes xs → Bytes bs → Bytes (xs ++ bs)
bytes_append [] bs h k = k
bytes_append (x ∷ xs) bs h k = (h.0, bytes_append xs bs h.1 k)

pub bytes_replicate : (n b : ℕ) → b < 256 → Bytes (replicate n b)
bytes_replicate zero b h = tt
bytes_replicate (suc n) b h = (h, bytes_replicate n b h)

-- past the end there is 0, which is a byte too
pub bytes_get_d : (bs : List ℕ) → Bytes bs → (i : ℕ) → get_or bs i 0 < 256
bytes_get_d [] h i = zero-lt-suc 255
bytes_get_d (b ∷ bs) h zero = h.0
bytes_get_d (b ∷ bs) h (suc i) = bytes_get_d bs h.1 i

pub bytes_every : (bs : List ℕ) → ((i : ℕ) → get_or bs i 0 < 256) → Bytes bs
bytes_every [] h = tt
bytes_every (b ∷ bs) h = (h zero, bytes_every bs (λ i. h (suc i)))
