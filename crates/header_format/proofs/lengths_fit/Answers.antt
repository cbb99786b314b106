-- `header_format::lengths_fit` meets its contract.
use mathlib.Core.Path.{refl}
use borrow.Author.Tests.{eq-eqb, ne_eqb}
use Rattle.header_format.specs.Format.{new_lengths_rule}
use Rattle.header_format.proofs.lengths_fit.Goals as goal

pub returns-then-salt_size-ne-SALT_SIZE : goal.returns-then-salt_size-ne-SALT_SIZE
unfolding new_lengths_rule
returns-then-salt_size-ne-SALT_SIZE c = rw (ne_eqb _ _ c.if-salt_size-ne-SALT_SIZE.true) refl

pub returns-then-keys_size-ne-KEYS_SIZE : goal.returns-then-keys_size-ne-KEYS_SIZE
unfolding new_lengths_rule
returns-then-keys_size-ne-KEYS_SIZE c = rw (eq-eqb _ _ c.if-salt_size-ne-SALT_SIZE.false, ne_eqb _ _ c.if-keys_size-ne-KEYS_SIZE.true) refl

pub returns : goal.returns
unfolding new_lengths_rule
returns c = rw (eq-eqb _ _ c.if-salt_size-ne-SALT_SIZE.false, eq-eqb _ _ c.if-keys_size-ne-KEYS_SIZE.false) refl
