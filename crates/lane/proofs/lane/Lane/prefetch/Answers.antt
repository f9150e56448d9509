-- `lane::lane::Lane::prefetch` meets its contract.
-- Assumes nothing.

use Rattle.lane.proofs.lane.Lane.prefetch.Goals as goal

pub returns : goal.returns
returns c = simp c.distance.ensures
