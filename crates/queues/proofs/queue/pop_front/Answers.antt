-- `queues::queue::pop_front` meets its contract.
-- Assumes nothing.
use native.Mathlib.Omega.{arith}
use lib.ListN.{length-set}
use Rattle.queues.specs.Queue.{pop_front}
use Rattle.queues.proofs.queue.pop_front.Goals as goal

pub bounds-t-2-2 : goal.bounds-t-2-2
bounds-t-2-2 c = simp length-set (omega arith)

pub returns : goal.returns
unfolding pop_front
returns c = simp c.row_of-next.ensures.0
