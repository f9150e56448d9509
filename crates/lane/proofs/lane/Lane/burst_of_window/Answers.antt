-- `lane::lane::Lane::burst_of_window` meets its contract.
-- Assumes nothing.
use mathlib.Core.Path.{refl}
use Rattle.lane.proofs.lane.Lane.burst_of_window.Goals as goal

pub returns : goal.returns
returns c = refl
