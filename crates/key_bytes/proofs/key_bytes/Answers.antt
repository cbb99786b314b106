-- `key_bytes::key_bytes` meets its contract: the accepted candidate lies whole in the candidates, so its keys do.
use Prim.Native.Nat.{ℕ, ◌+◌, ◌*◌, ◌≤◌}
use mathlib.Core.{Path.{◌≡◌, refl, sym, ap, ◌∙◌}, List.List}
use native.Mathlib.Nat.{zero-add, add-sub_cancel_left}
use native.Mathlib.Omega.{arith}
use lib.ListN.{length}
use Rattle.layout.specs.declared.Layout.{Layout}
use Rattle.header_format.specs.Format.{header_bytes}
use Rattle.opening.specs.Opening.{max_candidates, opened}
use Rattle.key_bytes.specs.KeyBytes.{keys_offset, keys_size}
use Rattle.opening.proofs.OpenedLaws.{opened_inside}
use Rattle.key_bytes.proofs.key_bytes.Goals as goal
use Rattle.std.specs.Prelude.{Ok}
use Rattle.answers.specs.Answers.{Answer}

inside : (candidates codes : List ℕ) (host_size : ℕ) {answer : Answer Layout} {layout : Layout} → answer ≡ opened candidates codes host_size → answer ≡ Ok layout
    → (layout.candidate * header_bytes + header_bytes ≤ length candidates) × (length candidates ≤ max_candidates * header_bytes)
inside candidates codes host_size told is = opened_inside candidates host_size _ codes (sym told ∙ is)

pub returns-in_default : goal.returns-in_default
unfolding keys_offset keys_size
returns-in_default c =
    let borrowed = c.args.candidates.ref_ptr in
    rw (sym c.open-answer.ensures ∙ c.in_default.is)
    (record { content = refl; address = ap (λ (n : ℕ). (borrowed.0, n)) (sym (zero-add borrowed.1)) })

pub overflow_mul-keys : goal.overflow_mul-keys
overflow_mul-keys c =
    let inside = inside c.args.candidates.now c.args.codes.now c.args.host_size c.open-answer.ensures c.in-Ok.is in
    record { fits = omega arith }

pub overflow_add-keys : goal.overflow_add-keys
overflow_add-keys c =
    let inside = inside c.args.candidates.now c.args.codes.now c.args.host_size c.open-answer.ensures c.in-Ok.is in
    record { fits = omega arith }

pub overflow_add-result : goal.overflow_add-result
overflow_add-result c =
    let inside = inside c.args.candidates.now c.args.codes.now c.args.host_size c.open-answer.ensures c.in-Ok.is in
    record { fits = omega arith }

pub slice_bounds-result-end-2 : goal.slice_bounds-result-end-2
slice_bounds-result-end-2 c =
    let inside = inside c.args.candidates.now c.args.codes.now c.args.host_size c.open-answer.ensures c.in-Ok.is in
    omega arith

pub returns : goal.returns
unfolding keys_offset keys_size
returns c = rw (sym c.open-answer.ensures ∙ c.in-Ok.is) (record { content = simp add-sub_cancel_left; address = refl })
