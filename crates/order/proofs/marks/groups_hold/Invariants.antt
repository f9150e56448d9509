-- `order::marks::groups_hold` meets its contract.
-- Assumes nothing.
use Prim.Native.Nat.{ℕ, ◌<◌}
use Rattle.order_slot.specs.Clauses.{GroupHolds}
use Rattle.order.proofs.marks.groups_hold.Given as goal

abbrev pub invariant-loop-group : goal.invariant-loop-group
invariant-loop-group l = (k : ℕ) → k < l.group → GroupHolds l.t k
