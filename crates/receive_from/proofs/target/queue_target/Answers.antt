-- `receive_from::target::queue_target` meets its contract.
-- Assumes nothing.
use Rattle.receive_from.specs.Target.{queue_target}
use Rattle.store.proofs.SignalFrames.{shaped_marked_if_idle, head_marked_if_idle}
use Rattle.queues.proofs.QueueLaws.{shaped_put_lane}
use Rattle.lane.proofs.TableLaws.{frames}
use Rattle.receive_from.proofs.target.queue_target.Goals as goal

pub mark_if_idle-requires : goal.mark_if_idle-requires
mark_if_idle-requires c = rw c.store.ensures (simp frames (c.requires.0, c.requires.1))

pub push_back-requires : goal.push_back-requires
push_back-requires c =
    rw (c.mark_if_idle.ensures, c.store.ensures)
    (shaped_marked_if_idle _ _ (shaped_put_lane _ c.requires.0 _), simp (head_marked_if_idle, frames) c.requires.2)

pub returns : goal.returns
unfolding queue_target
returns c = rw (c.push_back.ensures, c.mark_if_idle.ensures, c.store.ensures, c.with_turn.ensures)
