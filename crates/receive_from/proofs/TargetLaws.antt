-- What the targeted receive asks of a store in order.
-- Assumes nothing.
use Rattle.std.specs.Prelude.{Result, Ok, Err}
use mathlib.Core.Path.{◌≡◌, refl, sym, ap, ap₂, ◌∙◌, subst}
use mathlib.Core.Bool.{Bool, true, false, cond}
use mathlib.Core.List.{List}
use Prim.Native.Nat.{ℕ, ◌<◌}
use Rattle.model.specs.declared.Answer.{Answer}
use Rattle.model.specs.declared.Answer.TheVariants.{Item, Empty, Disconnected}
use Rattle.lane.specs.declared.lane.Lane.{Lane}
use Rattle.lane.specs.declared.lane.EmptyLane.{EmptyLane}
use Rattle.yring.specs.Cursor.{Capacity}
use Rattle.yring.specs.Ring.{new_ring, Within}
use Rattle.lane.specs.Order.{InOrder, Filled, Refundable}
use Rattle.lane.specs.Lane.{refill, pop_targeted}
use Rattle.lane.specs.Table.{lane_at, put_lane}
use Rattle.lane.proofs.OrderLaws.{refundable, refill_fills}
use Rattle.lane.proofs.AtHandLaws.{refill_filled}
use Rattle.lane.proofs.TableLaws.{frames, slot_of_lane}
use Rattle.queues.specs.Header.{Shaped, issued, slots, queue_count, free_count, capacity, channel, lane_count, held_less}
use Rattle.queues.specs.Queue.{remove}
use Rattle.queues.proofs.QueueLaws.{queue_has_room}
use Rattle.store.specs.Order.{StoreInOrder, but_held}
use Rattle.turns.specs.Turn.{Turning, retire_if}
use Rattle.receive_from.specs.Target.{AtHand, settle_target, queue_target, keep_target, target_took, take_from}
use Rattle.store.proofs.LaneFields.{Fixed, Flagged, flagged, RefillKept, refill_kept, flagged_targeted}
use Rattle.turns.proofs.TurnLaws.{slot_below, ring_in, some_lane, free_room}
use Rattle.turns.proofs.DueLaws.{turning_of, ringed_of}
use borrow.Author.Tests.{ne_eqb}
use lib.ListN.{length}
use lib.Dec.{eqb}

module _ (t r : List ℕ) (o : StoreInOrder t r) (x : ℕ) (h : x < issued t) (e : (lane_at t x).registered ≡ 1) where
  turning : Turning t
  turning = turning_of t r (but_held o)

  ordered : InOrder (capacity t) (lane_at t x)
  ordered = o.stores.lanes x h e

  pub target_refunds : Refundable (lane_at t x)
  target_refunds = refundable (capacity t) o.stores.power.most (lane_at t x) ordered

  pub target_below : x < slots t
  target_below = slot_below t turning x h

  pub target_ring : Within (new_ring x (capacity t)) (length r)
  target_ring = ring_in t turning x h r (ringed_of t r (but_held o))

  pub settled_room : (found : EmptyLane) → refill (lane_at t x) ≡ Err found
      → Shaped t × (found.lane.key.slot < slots t) × (free_count t < slots t) × (0 < lane_count t)
  settled_room found p =
      let k = subst (RefillKept (lane_at t x)) p (refill_kept (lane_at t x)) in
      (o.stores.shaped, rw (ap (λ (z : Fixed). z.0.slot) k.0 ∙ slot_of_lane t x) target_below, free_room t turning x h e, some_lane t turning x h e)

  module _ (l : Lane) (p : refill (lane_at t x) ≡ Ok l) where
    same_flags : flagged l ≡ flagged (lane_at t x)
    same_flags = subst (RefillKept (lane_at t x)) p (refill_kept (lane_at t x))

    pub target_filled : Filled (capacity t) l
    target_filled = refill_fills (capacity t) o.stores.power.most (lane_at t x) ordered l p

    pub kept_room : Shaped t × ((pop_targeted (new_ring x (capacity t)) r l).lane.key.slot < slots t)
        × ((pop_targeted (new_ring x (capacity t)) r l).lane.queued ≡ 0 → queue_count t < slots t)
    kept_room =
        let f = flagged_targeted (new_ring x (capacity t)) r l ∙ same_flags in (
          o.stores.shaped,
          rw (ap (λ (z : Flagged). z.0.slot) f ∙ slot_of_lane t x) target_below,
          λ q. queue_has_room t o.stores.shaped o.stores.named x h (sym (o.stores.named.flagged x h e) ∙ sym (ap (λ (z : Flagged). z.4) f) ∙ q),
        )

pub take_from_is : (t r : List ℕ) (x : ℕ) (p : Result Lane EmptyLane) → refill (lane_at t x) ≡ p → target_took t r x p ≡ take_from t r x
unfolding take_from
take_from_is t r x p e = ap (target_took t r x) (sym e)

pub refilled_as : (t : List ℕ) (x : ℕ) (l : Lane) (p : Result Lane EmptyLane) → l ≡ lane_at t x → p ≡ refill l → p ≡ refill (lane_at t x)
refilled_as t x l p a e = e ∙ ap refill a

-- ---- a queued lane with an item at hand

module _ (t r : List ℕ) (l : Lane) (k : AtHand t r l) where
  abbrev x : ℕ
  x = l.key.slot

  registered : (lane_at t x).registered ≡ 1
  registered = sym (ap (λ (m : Lane). m.registered) k.is_lane) ∙ k.is_registered

  pub hand_below : x < slots t
  hand_below = target_below t r k.in_order x k.is_issued registered

  pub hand_pop : Within (new_ring x (capacity t)) (length r) × Filled (capacity t) l
  hand_pop = (target_ring t r k.in_order x k.is_issued registered, k.filled)

  abbrev popped : Lane
  popped = (pop_targeted (new_ring x (capacity t)) r l).lane

  still : flagged popped ≡ flagged l
  still = flagged_targeted (new_ring x (capacity t)) r l

  pub hand_slot : popped.key.slot ≡ x
  hand_slot = ap (λ (z : Flagged). z.0.slot) still

  stored : put_lane t popped ≡ keep_target t popped
  unfolding keep_target
  stored = go (eqb popped.paused 0)
    where
      go : (b : Bool) → put_lane t popped ≡ cond b (cond (eqb popped.queued 0) (queue_target t popped) (put_lane t popped)) (put_lane t popped)
      go true = simp (ne_eqb popped.queued 0 (λ e. k.is_queued (sym (ap (λ (z : Flagged). z.4) still) ∙ e)))
      go false = refl

  pub hand_channel : channel (held_less (put_lane t popped) 1) ≡ channel t
  hand_channel = simp frames

  pub hand_taken : ◌≡◌ {A = Answer × List ℕ} (Item (pop_targeted (new_ring x (capacity t)) r l).item (record { channel = channel t; key = l.key }), held_less (put_lane t popped) 1) (take_from t r x)
  unfolding target_took
  hand_taken =
      ap (λ (u : List ℕ). (Item (pop_targeted (new_ring x (capacity t)) r l).item (record { channel = channel t; key = l.key }), held_less u 1)) stored
      ∙ take_from_is t r x (Ok l) (sym (ap refill k.is_lane) ∙ refill_filled (capacity t) l k.filled)

module _ (t r : List ℕ) (o : StoreInOrder t r) (x : ℕ) (h : x < issued t) (e : (lane_at t x).registered ≡ 1) (l : Lane) (q : l ≡ lane_at t x) where
  pub loaded_slot : l.key.slot ≡ x
  loaded_slot = ap (λ (m : Lane). m.key.slot) q ∙ slot_of_lane t x

  pub loaded_sizes : Capacity (capacity t) × InOrder (capacity t) l
  loaded_sizes = (o.stores.power, subst (InOrder (capacity t)) (sym q) (o.stores.lanes x h e))

  pub loaded_at_hand : Filled (capacity t) l → (l.queued ≡ 0 → ⊥) → AtHand t r l
  loaded_at_hand f n = record {
    in_order = o;
    is_issued = rw loaded_slot h;
    is_lane = q ∙ ap (lane_at t) (sym loaded_slot);
    is_registered = ap (λ (m : Lane). m.registered) q ∙ e;
    filled = f;
    is_queued = n;
  }

-- ---- the answer of a lane found empty

abbrev answered : Answer → List ℕ → Answer × List ℕ
answered a u = (a, u)

module _ (t : List ℕ) (found : EmptyLane) (u : List ℕ)
    (e : u ≡ retire_if found.disconnected (remove (put_lane t found.lane) found.lane.key.slot) found.lane) where
  pub settled_dropped : found.disconnected ≡ true → (Disconnected, u) ≡ settle_target t found
  unfolding settle_target
  settled_dropped d = ap₂ answered (ap (λ (b : Bool). cond b Disconnected Empty) (sym d)) e

  pub settled_living : found.disconnected ≡ false → (Empty, u) ≡ settle_target t found
  unfolding settle_target
  settled_living d = ap₂ answered (ap (λ (b : Bool). cond b Disconnected Empty) (sym d)) e
