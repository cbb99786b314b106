-- `new_header::lay` meets its contract.
use mathlib.Core.{Path.{◌≡◌, sym, ◌∙◌}, List.List}
use Prim.Native.Nat.{ℕ}
use borrow.Author.Rules.{rules}
use lib.ListN.{length}
use Rattle.new_header.specs.NewHeader.{new_header}
use Rattle.new_header.proofs.LengthLaws.{lengths_right, lengths_kept, over_fit, over_other}
use Rattle.new_header.proofs.lay.Goals as goal

pub returns-in_default : goal.returns-in_default
returns-in_default c =
    let wrong : length c.args.salt.now ≡ 64 → ⊥ = search rules in
    sym (over_other _ _ _ _ (λ kept. wrong (lengths_right _ _ _ kept).0))

pub returns-in_default-as_array : goal.returns-in_default-as_array
returns-in_default-as_array c =
    let wrong : length c.args.keys.now ≡ 256 → ⊥ = search rules in
    sym (over_other _ _ _ _ (λ kept. wrong (lengths_right _ _ _ kept).1.0))

pub returns-in_default-as_mut_array : goal.returns-in_default-as_mut_array
returns-in_default-as_mut_array c =
    let wrong : length c.args.header.now ≡ 512 → ⊥ = search rules in
    sym (over_other _ _ _ _ (λ kept. wrong (lengths_right _ _ _ kept).1.1))

pub returns-in-Some-as_mut_array : goal.returns-in-Some-as_mut_array
returns-in-Some-as_mut_array c =
    let salt : List ℕ = c.args.salt.now in
    let keys : List ℕ = c.args.keys.now in
    let header : List ℕ = c.args.header.now in
    let s : length salt ≡ 64 = search rules in
    let k : length keys ≡ 256 = search rules in
    let h : length header ≡ 512 = search rules in
    let laid : c.fill.new.header ≡ new_header c.args.layout salt keys = search rules in
    laid ∙ sym (over_fit c.args.layout salt keys header (lengths_kept s k h))
