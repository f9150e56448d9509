-- `wraparound::rounds` meets its contract.
-- Assumes nothing.
use mathlib.Core.Path.{◌≡◌}
use Rattle.lane.specs.Order.{InOrder}
use Rattle.wraparound.proofs.rounds.Given as goal

abbrev pub invariant-loop : goal.invariant-loop
invariant-loop l = InOrder l.ring.capacity l.run.lane × (l.run.lane.head ≡ l.run.lane.tail)
