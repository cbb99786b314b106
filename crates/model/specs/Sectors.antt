-- An image as sectors of 512 bytes: one read, one replaced, and a buffer's pieces laid into several, or gathered from them, in order.
-- Assumes nothing.
use Rattle.std.specs.Prelude.{ℕ, ◌+◌, ◌*◌}
use mathlib.Core.{Bool.cond, List.{List, [], ◌∷◌, ◌++◌}}
use lib.{Dec.eqb, ListN.{take, drop}}

-- a sector's 512 bytes in an image
unfoldable pub sector_at : ℕ → List ℕ → List ℕ
sector_at host image = take 512 (drop (host * 512) image)

-- an image with other bytes in one sector
unfoldable pub set_sector : ℕ → List ℕ → List ℕ → List ℕ
set_sector host bytes image = take (host * 512) image ++ bytes ++ drop (host * 512 + 512) image

-- a buffer's 512-byte pieces laid into sectors, in order, each in the form in which its sector keeps it
unfoldable pub lay : (ℕ → List ℕ → List ℕ) → List ℕ → List ℕ → List ℕ → List ℕ
lay stored [] buffer image = image
lay stored (host ∷ hosts) buffer image = lay stored hosts (drop 512 buffer) (set_sector host (stored host (take 512 buffer)) image)

-- sectors copied out, in order
unfoldable pub gather : (ℕ → List ℕ) → List ℕ → List ℕ
gather contents [] = []
gather contents (host ∷ hosts) = contents host ++ gather contents hosts

-- what a sector keeps of a buffer that is laid into sectors, or what was there
unfoldable pub piece_for : (ℕ → List ℕ → List ℕ) → ℕ → List ℕ → List ℕ → List ℕ → List ℕ
piece_for stored host [] buffer before = before
piece_for stored host (covered ∷ hosts) buffer before =
    cond (eqb host covered) (stored covered (take 512 buffer)) (piece_for stored host hosts (drop 512 buffer) before)
