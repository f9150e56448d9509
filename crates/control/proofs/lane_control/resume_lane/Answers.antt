-- `control::lane_control::resume_lane` meets its contract.
-- Assumes nothing.
use Rattle.control.proofs.ResumeCases.{resumed_paused}
use Rattle.store.proofs.SignalFrames.{shaped_marked_if_idle, head_marked_if_idle}
use Rattle.control.specs.Control.{resume_lane}
use Rattle.queues.proofs.QueueLaws.{shaped_put_lane}
use Rattle.lane.proofs.TableLaws.{frames}
use borrow.Author.Tests.{ne_eqb}
use Rattle.control.proofs.lane_control.resume_lane.Goals as goal

pub returns-then-l-ne1 : goal.returns-then-l-ne1
unfolding resume_lane
returns-then-l-ne1 c = simp (ne_eqb _ _ c.if-l-ne1.true)

pub mark_if_idle-requires : goal.mark_if_idle-requires
mark_if_idle-requires c = rw c.store.ensures (simp frames (c.requires.0, c.requires.1))

pub push_back-requires : goal.push_back-requires
push_back-requires c =
    rw (c.mark_if_idle.ensures, c.store.ensures)
    (shaped_marked_if_idle _ _ (shaped_put_lane _ c.requires.0 _), simp (head_marked_if_idle, frames) (c.requires.2 c.if-l-ne1.false))

pub returns : goal.returns
returns c =
    rw (resumed_paused _ c.args.l c.if-l-ne1.false, c.push_back.ensures, c.mark_if_idle.ensures, c.store.ensures, c.with_turn.ensures)
