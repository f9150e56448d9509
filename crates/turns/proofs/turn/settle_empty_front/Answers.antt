-- `turns::turn::settle_empty_front` meets its contract.
-- Assumes nothing.
use Rattle.turns.specs.Turn.{settle_empty_front}
use Rattle.queues.proofs.QueueLaws.{queue_frames, shaped_put_lane, shaped_popped_front}
use Rattle.lane.proofs.TableLaws.{frames}
use Rattle.turns.proofs.turn.settle_empty_front.Goals as goal

pub pop_front-requires : goal.pop_front-requires
pop_front-requires c = rw c.store.ensures (simp frames (c.requires.0, c.requires.2))

pub retire_if-requires : goal.retire_if-requires
retire_if-requires c =
    rw (c.pop_front.ensures, c.store.ensures)
    (shaped_popped_front _ (shaped_put_lane _ c.requires.0 _), simp (queue_frames, frames) c.requires.1, simp (queue_frames, frames) c.requires.3, simp (queue_frames, frames) c.requires.4)

pub returns : goal.returns
unfolding settle_empty_front
returns c = rw (c.retire_if.ensures, c.pop_front.ensures, c.store.ensures)
