-- The targeted receive, as words.
-- Assumes nothing.
use Rattle.std.specs.Prelude.{cond, List, ◌≡◌, ℕ, ◌<◌, eqb, Result, Ok, Err}
use Rattle.model.specs.declared.LaneId.{LaneId}
use Rattle.model.specs.declared.Answer.{Answer}
use Rattle.model.specs.declared.Answer.TheVariants.{Item, Empty, Disconnected}
use Rattle.lane.specs.declared.lane.Lane.{Lane}
use Rattle.lane.specs.declared.lane.EmptyLane.{EmptyLane}
use Rattle.yring.specs.Ring.{new_ring}
use Rattle.lane.specs.Order.{Filled}
use Rattle.lane.specs.Lane.{refill, pop_targeted}
use Rattle.lane.specs.Table.{lane_at, put_lane}
use Rattle.queues.specs.Header.{issued, capacity, channel, held_less}
use Rattle.queues.specs.Queue.{push_back, remove}
use Rattle.store.specs.Order.{StoreInOrder}
use Rattle.store.specs.Refusal.{id_verdict}
use Rattle.store.specs.Words.{Words, unless_refused, with_rings}
use Rattle.store.specs.Signal.{mark_if_idle}
use Rattle.control.specs.Control.{with_turn}
use Rattle.turns.specs.Turn.{retire_if}

-- a queued lane with an item that is known and no open window; whether credit is due with it does not matter here
pub record AtHand (t r : List ℕ) (l : Lane) : Type 0 where
  pub in_order : StoreInOrder t r
  pub is_issued : l.key.slot < issued t
  pub is_lane : l ≡ lane_at t l.key.slot
  pub is_registered : l.registered ≡ 1
  pub filled : Filled (capacity t) l
  pub is_queued : l.queued ≡ 0 → ⊥

-- A lane found empty settles and leaves the queue; with its sender dropped it retires and the answer is Disconnected.
unfoldable pub settle_target : List ℕ → EmptyLane → Answer × List ℕ
settle_target t found = (
  cond found.disconnected Disconnected Empty,
  retire_if found.disconnected (remove (put_lane t found.lane) found.lane.key.slot) found.lane,
)

-- "Whatever queues a lane, resume too, puts it at the back." Its signal is marked.
unfoldable pub queue_target : List ℕ → Lane → List ℕ
queue_target t l = push_back (mark_if_idle (put_lane t (with_turn 1 1 0 l)) l) l.key.slot

-- "works on a paused lane, queues an unpaused one"
unfoldable pub keep_target : List ℕ → Lane → List ℕ
keep_target t l = cond (eqb l.paused 0) (cond (eqb l.queued 0) (queue_target t l) (put_lane t l)) (put_lane t l)

-- "Targeted: counts in neither burst nor budget". An item handed out is held no more.
unfoldable pub target_took : List ℕ → List ℕ → ℕ → Result Lane EmptyLane → Answer × List ℕ
target_took t r x (Err found) = settle_target t found
target_took t r x (Ok l) = (
  Item (pop_targeted (new_ring x (capacity t)) r l).item (record { channel = channel t; key = l.key }),
  held_less (keep_target t (pop_targeted (new_ring x (capacity t)) r l).lane) 1,
)

unfoldable pub take_from : List ℕ → List ℕ → ℕ → Answer × List ℕ
take_from t r x = target_took t r x (refill (lane_at t x))

unfoldable pub try_recv_from : List ℕ → List ℕ → LaneId → Words
try_recv_from t r i = unless_refused (id_verdict t i) t r (with_rings r (take_from t r i.key.slot))
