-- `queues::queue::push_back` meets its contract.
-- Assumes nothing.
use Rattle.queues.specs.Queue.{push_back}
use Rattle.queues.proofs.queue.push_back.Goals as goal

pub returns : goal.returns
unfolding push_back
returns c = simp (c.set_cell.ensures, c.row_of-row.ensures.0)
