-- `all_lanes::all_lanes::held` meets its contract.
-- Assumes nothing.
use mathlib.Core.Path.{refl}
use Rattle.all_lanes.specs.AllLanes.{count_held}
use Rattle.all_lanes.proofs.all_lanes.held.Goals as goal

pub returns : goal.returns
unfolding count_held
returns c = refl
