-- `lane::lane::Lane::end_full_burst` meets its contract.
-- Assumes nothing.
use Rattle.lane.specs.Lane.{end_full_burst}
use Rattle.lane.proofs.lane.Lane.end_full_burst.Goals as goal

pub returns : goal.returns
unfolding end_full_burst
returns c = simp c.end_burst.ensures
