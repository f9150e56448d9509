-- `queues::registry::free` meets its contract.
-- Assumes nothing.
use Rattle.queues.specs.Registry.{free}
use Rattle.queues.proofs.registry.free.Goals as goal

pub returns : goal.returns
unfolding free
returns c = simp c.set_cell.ensures
