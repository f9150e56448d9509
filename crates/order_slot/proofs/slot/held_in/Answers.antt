-- `order_slot::slot::held_in` meets its contract.
-- Assumes nothing.
use native.Mathlib.Omega.{arith}
use Rattle.std.proofs.lemmas.Grind.{common_steps}
use Rattle.store.specs.Held.{held_in}
use Rattle.order_slot.proofs.slot.held_in.Goals as goal

pub returns-then-l-eq1 : goal.returns-then-l-eq1
unfolding held_in
returns-then-l-eq1 c = grind (arith, common_steps)

pub returns-else-l-eq1 : goal.returns-else-l-eq1
unfolding held_in
returns-else-l-eq1 c = grind (arith, common_steps)
