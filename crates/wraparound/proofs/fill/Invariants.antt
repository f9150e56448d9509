-- `wraparound::fill` meets its contract. The measure is the room that is left.
-- Assumes nothing.
use Rattle.lane.specs.Order.{InOrder}
use Rattle.wraparound.proofs.Ends.{room}
use Rattle.wraparound.proofs.fill.Given as goal

abbrev pub invariant-loop-sent : goal.invariant-loop-sent
invariant-loop-sent l = InOrder l.ring.capacity l.lane

abbrev pub decreases-loop-sent : goal.decreases-loop-sent
decreases-loop-sent l = room l.ring.capacity l.lane
