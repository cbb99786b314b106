-- `key_expansion::round_constant` meets its contract.
use mathlib.Core.Path.{ap}
use Rattle.key_expansion.specs.KeyExpansion.{round_constant}
use Rattle.key_expansion.proofs.ExpansionLaws.{power_at}
use mathlib.Core.List.{[], ◌∷◌}
use Prim.Native.Nat.{ℕ}
use borrow.Author.Rules.{rules}
use Rattle.key_expansion.proofs.round_constant.Goals as goal

pub returns : goal.returns
unfolding round_constant
returns c = ap (λ (x : ℕ). x ∷ 0 ∷ 0 ∷ 0 ∷ []) (power_at c.args.j (search rules))
