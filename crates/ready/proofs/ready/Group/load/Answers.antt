-- `ready::ready::Group::load` meets its contract.
-- Assumes nothing.

use Rattle.ready.proofs.ready.Group.load.Goals as goal

pub returns : goal.returns
returns c = simp c.cell.ensures
