-- `yring::ring::Ring::put` meets its contract.
-- Assumes nothing.

use Rattle.yring.proofs.ring.Ring.put.Goals as goal

pub returns : goal.returns
returns c = rw (c.put_at.ensures, c.index.ensures.0)
