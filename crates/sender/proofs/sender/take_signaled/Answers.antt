-- `sender::sender::take_signaled` meets its contract.
-- Assumes nothing.
use Rattle.lane.proofs.TableLaws.{frames}
use Rattle.sender.specs.Sender.{take_signaled}
use Rattle.sender.proofs.sender.take_signaled.Goals as goal

pub mark_if_idle-requires : goal.mark_if_idle-requires
mark_if_idle-requires c = rw c.store.ensures (simp frames c.requires)

pub returns : goal.returns
unfolding take_signaled
returns c = rw (c.mark_if_idle.ensures, c.store.ensures, c.with_sender-marked.ensures)
