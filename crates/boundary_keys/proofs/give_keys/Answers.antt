-- `boundary_keys::give_keys` meets its contract, by the cases of the answer.
use Prim.Native.Nat.{◌+◌, ◌*◌, ◌≤◌}
use mathlib.Core.Path.{refl, subst}
use native.Mathlib.Omega.{arith}
use Rattle.key_bytes.specs.KeyBytes.{keys_offset, keys_size}
use Rattle.boundary_keys.specs.BoundaryKeys.{keys_left}
use Rattle.boundary_keys.proofs.give_keys.Goals as goal
use Rattle.answers.specs.Answers.{Answer, refusal_number}
use Rattle.layout.specs.declared.Layout.{Layout}

few : (c : goal.After-struct_known-1) → c.in-Ok.layout.candidate * 512 + 256 ≤ 32768
unfolding keys_offset
few c =
    subst (λ (answer : Answer Layout). keys_offset answer ≤ 32768) c.in-Ok.is c.requires

pub overflow_mul-offset : goal.overflow_mul-offset
overflow_mul-offset c = record { fits = omega (arith, few c) }

pub overflow_add-offset : goal.overflow_add-offset
overflow_add-offset c = record { fits = omega (arith, few c) }

pub returns-in-Ok : goal.returns-in-Ok
unfolding refusal_number keys_offset keys_size keys_left
returns-in-Ok c = rw c.in-Ok.is (record { value = refl; range_after = refl })

pub returns-in-Err : goal.returns-in-Err
unfolding refusal_number keys_offset keys_size keys_left
returns-in-Err c = rw c.in-Err.is (record { value = c.from.ensures; range_after = refl })
