-- `receive_from::target::settle_target` meets its contract.
-- Assumes nothing.
use Rattle.receive_from.proofs.TargetLaws.{settled_dropped, settled_living}
use Rattle.queues.proofs.QueueLaws.{queue_frames, shaped_put_lane, shaped_removed}
use Rattle.lane.proofs.TableLaws.{frames}
use Rattle.receive_from.proofs.target.settle_target.Goals as goal

pub remove-requires : goal.remove-requires
remove-requires c = rw c.store.ensures (shaped_put_lane _ c.requires.0 _)

pub retire_if-requires : goal.retire_if-requires
retire_if-requires c =
    rw (c.remove.ensures, c.store.ensures)
    (shaped_removed _ (shaped_put_lane _ c.requires.0 _) _, simp (queue_frames, frames) c.requires.1, simp (queue_frames, frames) c.requires.2, simp (queue_frames, frames) c.requires.3)

pub returns-then-found : goal.returns-then-found
returns-then-found c = settled_dropped _ _ _ (rw (c.remove.ensures, c.store.ensures) at c.retire_if.ensures) c.if-found.true

pub returns : goal.returns
returns c = settled_living _ _ _ (rw (c.remove.ensures, c.store.ensures) at c.retire_if.ensures) c.if-found.false
