-- `queues::queue::rotate_left` meets its contract.
-- Assumes nothing.
use Rattle.queues.specs.Queue.{rotate_left}
use Rattle.queues.proofs.queue.rotate_left.Goals as goal

pub returns : goal.returns
unfolding rotate_left
returns c =
    simp (c.set_cell.ensures, c.row_of-back.ensures.0, c.row_of-next.ensures.0, c.front_slot-slot.ensures)
