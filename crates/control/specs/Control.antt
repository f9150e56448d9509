-- Pause, resume, close lane and close receiver, as words.
-- Assumes nothing.
use Rattle.std.specs.Prelude.{cond, List, ℕ, eqb}
use Rattle.model.specs.declared.LaneId.{LaneId}
use Rattle.model.specs.declared.Answer.TheVariants.{Done}
use Rattle.lane.specs.declared.lane.Lane.{Lane}
use Rattle.yring.specs.Cursor.{distance}
use Rattle.lane.specs.Lane.{with_flags, release_pending}
use Rattle.lane.specs.Table.{lane_at, put_lane}
use Rattle.queues.specs.Header.{set_alive, held_less}
use Rattle.queues.specs.Queue.{push_back, remove}
use Rattle.store.specs.Refusal.{receiver_verdict, id_verdict}
use Rattle.store.specs.Words.{Words, unless_refused}
use Rattle.store.specs.Signal.{mark_if_idle}
use Rattle.store.specs.Registry.{retire_lane}

-- a lane with another signal, in or out of the queue, paused or not
abbrev pub with_turn : ℕ → ℕ → ℕ → Lane → Lane
with_turn pending queued paused l = with_flags pending queued paused l.registered l.living l

-- credit goes back "on `pause`"; a paused lane is in no queue
unfoldable pub paused_lane : Lane → Lane
paused_lane l = with_turn l.pending 0 1 (release_pending l).lane

unfoldable pub pause_lane : List ℕ → Lane → List ℕ
pause_lane t l = remove (put_lane t (paused_lane l)) l.key.slot

unfoldable pub pause : List ℕ → List ℕ → LaneId → Words
pause t r i = unless_refused (id_verdict t i) t r (Done, pause_lane t (lane_at t i.key.slot), r)

-- "Whatever queues a lane, resume too, puts it at the back." Its signal is marked.
unfoldable pub resume_lane : List ℕ → Lane → List ℕ
resume_lane t l = cond (eqb l.paused 1) (push_back (mark_if_idle (put_lane t (with_turn 1 1 0 l)) l) l.key.slot) t

unfoldable pub resume : List ℕ → List ℕ → LaneId → Words
resume t r i = unless_refused (id_verdict t i) t r (Done, resume_lane t (lane_at t i.key.slot), r)

-- The lane is registered, so that its ring is what the walk counts of it: store, specs/Held.antt (`held_in`). Its items are held no more.
unfoldable pub close : List ℕ → Lane → List ℕ
close t l = held_less (retire_lane (remove t l.key.slot) l) (distance l.tail l.head)

unfoldable pub close_lane : List ℕ → List ℕ → LaneId → Words
close_lane t r i = unless_refused (id_verdict t i) t r (Done, close t (lane_at t i.key.slot), r)

-- "Closing the receiver retires no lane"
unfoldable pub close_receiver : List ℕ → List ℕ → Words
close_receiver t r = unless_refused (receiver_verdict t) t r (Done, set_alive t 0, r)
