-- The plain and the fair receive, as words.
-- Assumes nothing.
use Rattle.std.specs.Prelude.{true, false, cond, List, ◌≡◌, ℕ, ◌-◌, ◌<◌, eqb, ltb, Option, Some, None}
use Rattle.model.specs.declared.OpenedChannel.{OpenedChannel}
use Rattle.model.specs.declared.Answer.{Answer}
use Rattle.model.specs.declared.Answer.TheVariants.{Item}
use Rattle.lane.specs.declared.lane.Lane.{Lane}
use Rattle.yring.specs.Ring.{new_ring}
use Rattle.lane.specs.Lane.{pop_fast, grant_fast, pop_lone}
use Rattle.lane.specs.Table.{lane_at, put_lane}
use Rattle.queues.specs.Header.{set_budget, set_fast_slot, issued, queue_count, budget, capacity, channel, fast_slot, held_less}
use Rattle.queues.specs.Queue.{front_slot}
use Rattle.ready.specs.Ready.{collect_ready}
use Rattle.turns.specs.declared.turn.Took.{Took}
use Rattle.store.specs.Refusal.{receiver_verdict}
use Rattle.store.specs.Order.{StoreInOrder}
use Rattle.store.specs.Words.{Words, unless_refused, with_rings}
use Rattle.turns.specs.Turn.{front_lane, turns}
use Rattle.turns.specs.Due.{collect_if_due}
use Rattle.turns.specs.Drained.{nothing_taken}
use Rattle.lane.specs.declared.consumer.Taken.{Taken}

-- a take that handed nothing out goes on with another
unfoldable pub else_take : Option Took × List ℕ → (List ℕ → Option Took × List ℕ) → Option Took × List ℕ
else_take (Some took, t) more = (Some took, t)
else_take (None, t) more = more t

-- an item of a window, charged to the budget
unfoldable pub take_from_window : List ℕ → ℕ → Lane → Option Took × List ℕ
take_from_window t item l = (Some (record { item = item; key = l.key }), set_budget (put_lane t l) (budget t - 1))

unfoldable pub fast_took : List ℕ → Option Taken → Option Took × List ℕ
fast_took t (Some taken) = take_from_window t taken.item taken.lane
fast_took t None = (None, t)

-- what an item asks of the budget
abbrev pub Affords : List ℕ → Option Taken → Type 0
Affords t (Some taken) = 0 < budget t
Affords t None = 0 < 1

-- "first the open fast window at `fast_slot`"
unfoldable pub take_fast : List ℕ → List ℕ → Option Took × List ℕ
take_fast t r =
    cond (ltb (fast_slot t) (issued t))
    (cond (eqb (lane_at t (fast_slot t)).registered 1)
    (fast_took t (pop_fast (new_ring (fast_slot t) (capacity t)) r (lane_at t (fast_slot t))))
    (None, t))
    (None, t)

-- what the fast way has found: the lane at `fast_slot`, with its window open
pub record FastOpen (t r : List ℕ) (l : Lane) : Type 0 where
  pub in_order : StoreInOrder t r
  pub is_issued : fast_slot t < issued t
  pub is_lane : l ≡ lane_at t (fast_slot t)
  pub is_registered : l.registered ≡ 1
  pub is_open : l.window ≡ 0 → ⊥

-- an item of a window that was just opened: `fast_slot` is then its lane's
unfoldable pub take_if_popped : List ℕ → Option Taken → Option Took × List ℕ
take_if_popped t (Some taken) = take_from_window (set_fast_slot t taken.lane.key.slot) taken.item taken.lane
take_if_popped t None = (None, t)

-- "then the front lane's window"
unfoldable pub take_front_window : List ℕ → List ℕ → Option Took × List ℕ
take_front_window t r =
    cond (eqb (queue_count t) 0) (None, t)
    (take_if_popped t (pop_fast (new_ring (front_slot t) (capacity t)) r (grant_fast (capacity t) (budget t) (front_lane t))))

-- "then the poll loop, which goes on until it has an item or nothing is queued and nothing is ready"
unfoldable pub poll_loop : List ℕ → List ℕ → Option Took × List ℕ
poll_loop t r = else_take (turns t r false) (λ u. turns (collect_ready true u) r false)

unfoldable pub try_recv_refill : List ℕ → List ℕ → Option Took × List ℕ
try_recv_refill t r = else_take (take_front_window (collect_if_due t) r) (λ u. poll_loop u r)

unfoldable pub take_one : List ℕ → List ℕ → Option Took × List ℕ
take_one t r = else_take (take_fast t r) (λ u. try_recv_refill u r)

-- "A lone lane takes `pop_fair`."
unfoldable pub take_lone : List ℕ → List ℕ → Option Took × List ℕ
take_lone t r =
    cond (eqb (queue_count t) 1)
    (take_if_popped t (pop_lone (new_ring (front_slot t) (capacity t)) r (budget t) (front_lane t)))
    (None, t)

-- "Fair: collect all groups if any is ready, budget 64, one item of the front lane, which goes to the back."
unfoldable pub take_fair : List ℕ → List ℕ → Option Took × List ℕ
take_fair t r = else_take (take_lone (set_budget (collect_ready true t) 64) r) (λ u. turns u r true)

-- "Single receives answer item and lane id (channel id, key)." The id carries the opening number too. The item is held no more.
unfoldable pub answer_one : OpenedChannel → Option Took × List ℕ → Answer × List ℕ
answer_one channel (Some took, t) = (Item took.item (record { channel = channel; key = took.key }), held_less t 1)
answer_one channel (None, t) = nothing_taken t

unfoldable pub try_recv : List ℕ → List ℕ → Words
try_recv t r = unless_refused (receiver_verdict t) t r (with_rings r (answer_one (channel t) (take_one t r)))

unfoldable pub try_recv_fair : List ℕ → List ℕ → Words
try_recv_fair t r = unless_refused (receiver_verdict t) t r (with_rings r (answer_one (channel t) (take_fair t r)))
