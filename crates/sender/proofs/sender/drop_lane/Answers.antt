-- `sender::sender::drop_lane` meets its contract.
-- Assumes nothing.
use Rattle.lane.proofs.TableLaws.{frames}
use Rattle.sender.specs.Sender.{drop_lane}
use Rattle.sender.proofs.sender.drop_lane.Goals as goal

pub mark_if_idle-requires : goal.mark_if_idle-requires
mark_if_idle-requires c = rw c.store.ensures (simp (frames, c.with_sender-marked.ensures) (c.requires.0, c.requires.1))

pub returns : goal.returns
unfolding drop_lane
returns c = rw (c.mark_if_idle.ensures, c.store.ensures, c.with_sender-marked.ensures)
