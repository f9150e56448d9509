-- `lane::lane::Lane::reload_is_empty` meets its contract.
-- Assumes nothing.
use Rattle.lane.specs.Lane.{reload_is_empty}
use Rattle.lane.proofs.lane.Lane.reload_is_empty.Goals as goal

pub returns : goal.returns
unfolding reload_is_empty
returns c = simp (c.reload-lane.ensures, c.close_fast.ensures)
