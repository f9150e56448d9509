-- `ready::ready::Group::mark` meets its contract.
-- Assumes nothing.

use Rattle.ready.proofs.ready.Group.mark.Goals as goal

pub returns : goal.returns
returns c = simp c.with_bit.ensures
