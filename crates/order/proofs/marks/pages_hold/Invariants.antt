-- `order::marks::pages_hold` meets its contract.
-- Assumes nothing.
use Prim.Native.Nat.{ℕ, ◌<◌}
use Rattle.order_slot.specs.Clauses.{PageHolds}
use Rattle.order.proofs.marks.pages_hold.Given as goal

abbrev pub invariant-loop-page : goal.invariant-loop-page
invariant-loop-page l = (k : ℕ) → k < l.page → PageHolds l.t k
