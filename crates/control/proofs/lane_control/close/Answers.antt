-- `control::lane_control::close` meets its contract.
-- Assumes nothing.
use Rattle.control.specs.Control.{close}
use Rattle.queues.proofs.QueueLaws.{queue_frames, shaped_removed}
use Rattle.control.proofs.lane_control.close.Goals as goal

pub retire_lane-requires : goal.retire_lane-requires
retire_lane-requires c =
    rw c.remove.ensures
    (shaped_removed _ c.requires.0 _, simp queue_frames c.requires.1, simp queue_frames c.requires.2, simp queue_frames c.requires.3)

pub returns : goal.returns
unfolding close
returns c = rw (c.held_less.ensures, c.distance.ensures, c.retire_lane.ensures, c.remove.ensures)
