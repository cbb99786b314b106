-- A list by its entries: what `map` and `from_fn` of an array make. Assumes nothing.
use Prim.Native.Nat.{ℕ, ◌<◌}
use native.Mathlib.Omega.{arith}
use mathlib.Core.{Path.{◌≡◌, sym, ◌∙◌}, List.{List}}
use lib.{ListN.{length, get_or}, Seq.take_all}
use Rattle.bits.specs.Bits.{entries}
use Rattle.bits.proofs.EntriesLaws.{entries_same, entries_get_d}

-- a list whose entries are the values of a function
pub made : {A : Type 0} (f : ℕ → A) (d : A) (n : ℕ) (list : List A) → length list ≡ n → ((i : ℕ) → i < n → get_or list i d ≡ f i) → list ≡ entries f n 0
made f d n list long each =
    sym (take_all n list (omega arith))
    ∙ sym (entries_get_d list d n 0 (omega arith))
    ∙ entries_same (λ i. get_or list i d) f n 0 (λ i h. each i (omega (arith, h)))
