-- `queues::header::Header::held_less` meets its contract.
-- Assumes nothing.

use Rattle.queues.proofs.header.Header.held_less.Goals as goal

pub returns : goal.returns
returns c = rw c.distance.ensures
