-- `ready::ready::Page::load` meets its contract.
-- Assumes nothing.

use Rattle.ready.proofs.ready.Page.load.Goals as goal

pub returns : goal.returns
returns c = simp c.cell.ensures
