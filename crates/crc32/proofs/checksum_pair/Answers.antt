-- `crc32::checksum_pair` meets its contract: each is a checksum.
use mathlib.Core.{Path.{◌≡◌, ap, ◌∙◌}, List.{List, [], ◌∷◌}}
use Prim.Native.Nat.{ℕ}
use Rattle.crc32.proofs.checksum_pair.Goals as goal

pair : {a b x y : ℕ} → a ≡ x → b ≡ y → ◌≡◌ {A = List ℕ} (a ∷ b ∷ []) (x ∷ y ∷ [])
pair {b = b} {x = x} first second = ap (λ (n : ℕ). n ∷ b ∷ []) first ∙ ap (λ (n : ℕ). x ∷ n ∷ []) second

pub returns : goal.returns
returns c = pair c.checksum.ensures c.checksum-2.ensures
