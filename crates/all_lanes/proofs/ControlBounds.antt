-- What a store in order gives the control calls: windows that can be closed, and room in the queue for a paused lane.
-- Assumes nothing.
use mathlib.Core.Path.{◌≡◌, refl}
use mathlib.Core.Bool.{Bool, true, false}
use mathlib.Core.List.{List}
use Prim.Native.Nat.{ℕ, zero, suc, ◌≤◌, ◌<◌}
use native.Mathlib.Omega.{arith}
use Rattle.model.specs.Lists.{count}
use Rattle.demands.proofs.Counting.{no}
use Rattle.lane.specs.Table.{lane_at}
use Rattle.lane.proofs.OrderLaws.{refundable}
use Rattle.queues.specs.Header.{issued, capacity, queue_count, slots}
use Rattle.queues.specs.Queue.{queue_of}
use Rattle.queues.proofs.QueueLaws.{queue_has_room}
use Rattle.store.specs.View.{slot_at, view}
use Rattle.store.specs.Order.{StoreInOrder}
use Rattle.all_lanes.specs.AllLanes.{AllRefundable}
use Rattle.store.proofs.ViewLaws.{slot_in}
use Rattle.store.proofs.StoreLaws.{flag_one}

-- a number that would make a true test false is 0
none_if : (n : ℕ) (b : Bool) → b ≡ true → (1 ≤ n → b ≡ false) → n ≡ 0
none_if zero b e f = refl
none_if (suc n) b e f = absurd (no e (f (omega arith)))

module _ (t r : List ℕ) (o : StoreInOrder t r) where
  -- every registered lane's window can be closed
  pub all_refundable : AllRefundable t
  all_refundable x h g = refundable (capacity t) o.stores.power.most (lane_at t x) (o.stores.lanes x h g)

  module _ (x : ℕ) (h : x < issued t) (p : (lane_at t x).paused ≡ 1) where
    paused_seen : ((view t r).slot_of x).paused ≡ true
    unfolding slot_at
    paused_seen = rw (slot_in t r x h) (flag_one _ p)

    -- "and no paused one"
    pub paused_unqueued : count x (queue_of t) ≡ 0
    unfolding view
    paused_unqueued = none_if (count x (queue_of t)) ((view t r).slot_of x).paused paused_seen (o.ordered.each_slot x).queued_unpaused

    -- so the queue has room for it
    pub paused_room : queue_count t < slots t
    paused_room = queue_has_room t o.stores.shaped o.stores.named x h paused_unqueued
