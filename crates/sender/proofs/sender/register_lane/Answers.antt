-- `sender::sender::register_lane` meets its contract.
-- Assumes nothing.
use Rattle.sender.specs.Sender.{register_lane}
use Rattle.sender.proofs.sender.register_lane.Goals as goal

pub returns : goal.returns
unfolding register_lane
returns c = rw (c.store.ensures, c.take_slot.ensures, c.new-l.ensures)
