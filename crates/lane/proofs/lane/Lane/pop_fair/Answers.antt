-- `lane::lane::Lane::pop_fair` meets its contract.
-- Assumes nothing.

use Rattle.lane.proofs.lane.Lane.pop_fair.Goals as goal

pub returns : goal.returns
returns c = rw (c.burst_of_window.ensures, c.pop_window-taken.ensures)
