-- Where the key bytes lie: within the candidates.
-- Assumes nothing.
use Prim.Native.Nat.{ℕ, ◌*◌, ◌≤◌}
use native.Mathlib.Omega.{arith}
use mathlib.Core.{Path.{◌≡◌, refl}, List.List}
use Rattle.header_format.specs.Format.{header_bytes}
use Rattle.opening.specs.Opening.{max_candidates, opened}
use Rattle.opening.proofs.OpenedLaws.{opened_inside}
use Rattle.key_bytes.specs.KeyBytes.{keys_offset}
use Rattle.std.specs.Prelude.{Ok, Err}
use Rattle.answers.specs.Answers.{Answer}
use Rattle.layout.specs.declared.Layout.{Layout}

keys_inside_lem : (candidates : List ℕ) (host_size : ℕ) (codes : List ℕ) (answer : Answer Layout) → opened candidates codes host_size ≡ answer
    → keys_offset answer ≤ max_candidates * header_bytes
unfolding keys_offset
keys_inside_lem candidates host_size codes (Ok layout) e =
    let inside = opened_inside candidates host_size layout codes e in
    omega (arith, inside.0, inside.1)
keys_inside_lem candidates host_size codes (Err refusal) e = omega arith

-- the key bytes start within the longest candidates
pub keys_offset_most : (candidates : List ℕ) (host_size : ℕ) (codes : List ℕ)
    → keys_offset (opened candidates codes host_size) ≤ max_candidates * header_bytes
keys_offset_most candidates host_size codes = keys_inside_lem candidates host_size codes (opened candidates codes host_size) refl
