-- `lane::lane::Lane::advance` meets its contract.
-- Assumes nothing.

use Rattle.lane.proofs.lane.Lane.advance.Goals as goal

pub returns : goal.returns
returns c = simp c.after.ensures
