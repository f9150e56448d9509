-- `lane::lane::Lane::window_for` meets its contract.
-- Assumes nothing.
use Rattle.lane.specs.Lane.{window_for}
use Rattle.lane.proofs.lane.Lane.window_for.Goals as goal

pub returns : goal.returns
unfolding window_for
returns c = cc
