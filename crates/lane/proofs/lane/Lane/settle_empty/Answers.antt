-- `lane::lane::Lane::settle_empty` meets its contract.
-- Assumes nothing.
use Rattle.lane.specs.Lane.{settle_empty, emptied}
use mathlib.Core.Path.{ap}
use Rattle.lane.proofs.lane.Lane.settle_empty.Goals as goal

pub returns : goal.returns
unfolding settle_empty emptied
returns c = ap emptied c.release_pending-done.ensures
