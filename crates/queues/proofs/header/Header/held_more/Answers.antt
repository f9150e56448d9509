-- `queues::header::Header::held_more` meets its contract.
-- Assumes nothing.

use Rattle.queues.proofs.header.Header.held_more.Goals as goal

pub returns : goal.returns
returns c = rw c.after.ensures
