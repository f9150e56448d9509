-- `wraparound::receive_chunks` meets its contract. The measure is what the lane holds.
-- Assumes nothing.
use Rattle.lane.specs.Order.{InOrder}
use Rattle.wraparound.proofs.Ends.{held}
use Rattle.wraparound.proofs.receive_chunks.Given as goal

abbrev pub invariant-loop-found : goal.invariant-loop-found
invariant-loop-found l = InOrder l.ring.capacity l.run.lane

abbrev pub decreases-loop-found : goal.decreases-loop-found
decreases-loop-found l = held l.run.lane
