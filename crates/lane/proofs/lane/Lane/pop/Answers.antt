-- `lane::lane::Lane::pop` meets its contract.
-- Assumes nothing.

use Rattle.lane.proofs.lane.Lane.pop.Goals as goal

pub returns : goal.returns
returns c = simp (c.item_at-item.ensures, c.after.ensures)
