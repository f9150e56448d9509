-- A lane found empty that was stored and left the queue, wherever it stood there: what the rules see of it, and that a store in order is left.
-- Assumes nothing.
use mathlib.Core.Path.{◌≡◌, sym, ap, ◌∙◌, subst}
use mathlib.Core.Logic.{◌≢◌}
use mathlib.Core.Bool.{Bool, true, false, cond, not}
use mathlib.Core.List.{List}
use Prim.Native.Nat.{ℕ, ◌+◌, ◌-◌, ◌<◌}
use native.Mathlib.Omega.{arith}
use Rattle.model.specs.Lists.{count}
use Rattle.model.specs.State.{Slot}
use Rattle.model.specs.Changes.{with_queue, put, settled_empty}
use Rattle.model.specs.Order.{Ordered}
use Rattle.model.specs.Turn as rules
use Rattle.demands.proofs.OrderKept.{settle_empty_ordered}
use Rattle.lane.specs.declared.lane.Lane.{Lane}
use Rattle.lane.specs.declared.lane.EmptyLane.{EmptyLane}
use Rattle.yring.specs.Ring.{new_ring}
use Rattle.lane.specs.Lane.{held_items}
use Rattle.lane.specs.Table.{head, NarrowLane, lane_at, put_lane}
use Rattle.lane.proofs.OrderLaws.{order_narrow}
use Rattle.lane.proofs.TableLaws.{slot_of_lane}
use Rattle.queues.specs.Header.{issued, slots, free_count, budget, capacity, fast_slot, lane_count, living_count}
use Rattle.queues.specs.Queue.{queue_of}
use Rattle.ready.specs.Ready.{page_bit}
use Rattle.store.specs.View.{flag, slot_of, slot_at, view}
use Rattle.store.specs.Order.{Flags, Stores, InOrderButHeld}
use Rattle.store.specs.Registry.{retired, retire_lane}
use Rattle.turns.specs.Turn.{retire_if}
use Rattle.store.proofs.ViewLaws.{slot_in, view_put_lane}
use Rattle.store.proofs.HeaderWords.{with_word}
use Rattle.store.proofs.StepLaws.{Step, issued_kept, lanes_now}
use Rattle.store.proofs.StoreLaws.{lane_counted, registered_seen, OtherWindows, Owes, stores_after_lem}
use Rattle.store.proofs.SignalLaws.{idle_flag}
use Rattle.store.proofs.RetireLaws.{view_retire_lane, step_retire_lane}
use Rattle.store.proofs.LaneFields.{Fixed}
use Rattle.refinement.proofs.EmptyLaneLaws.{slot_path, Empties}

module _ (t r : List ℕ) (o : InOrderButHeld t r) (x : ℕ) (h : x < issued t) (g : (lane_at t x).registered ≡ 1) (found : EmptyLane) (k : Empties t r x found) where
  abbrev l : Lane
  l = found.lane

  abbrev slot : Slot
  slot = (view t r).slot_of x

  pub found_slot : found.lane.key.slot ≡ x
  found_slot = ap (λ (z : Fixed). z.0.slot) k.fixed.0 ∙ slot_of_lane t x

  pub found_narrow : NarrowLane found.lane
  found_narrow = order_narrow (capacity t) o.stores.power.most found.lane k.order

  sees : slot ≡ slot_at t r x
  sees = slot_in t r x h

  slot_settled : slot_of l (page_bit t x) (held_items (new_ring x (capacity t)) r l) ≡ settled_empty slot
  unfolding slot_at
  slot_settled =
      slot_path _ _
      (ap (λ (z : Fixed). flag z.1) k.fixed.0 ∙ sym (ap (λ (m : Slot). m.registered) sees))
      (ap (λ (z : Fixed). flag z.3) k.fixed.0 ∙ sym (ap (λ (m : Slot). m.living) sees))
      (ap (λ (z : Fixed). flag z.2) k.fixed.0 ∙ sym (ap (λ (m : Slot). m.paused) sees))
      (ap flag k.idle.idle)
      (sym (ap (λ (m : Slot). m.marked) sees))
      (ap (λ (z : Fixed). z.0.generation) k.fixed.0 ∙ sym (ap (λ (m : Slot). m.generation) sees))
      (k.idle.same_ends ∙ sym (ap (λ (m : Slot). m.ring) sees))
      (omega (arith, k.idle.unreleased_none))
      (omega (arith, k.idle.burst_none))

  -- the lane stored
  pub found_view : view (put_lane t found.lane) r ≡ put x (settled_empty ((view t r).slot_of x)) (view t r)
  found_view = view_put_lane t o.stores.shaped l x found_slot found_narrow h r ∙ ap (λ (m : Slot). put x m (view t r)) slot_settled

  pub found_dropped : found.disconnected ≡ not ((view t r).slot_of x).living
  unfolding slot_at
  found_dropped =
      k.idle.dropped ∙ idle_flag (lane_at t x).living (o.stores.flags x h).living_flag ∙ ap (λ (m : Slot). not m.living) (sym sees)

  flags_settled : Flags l
  flags_settled =
      let f = o.stores.flags x h in
      record {
        pending_flag = omega (arith, k.idle.idle);
        queued_flag = omega (arith, k.idle.unqueued);
        paused_flag = omega (arith, ap (λ (z : Fixed). z.2) k.fixed.0, f.paused_flag);
        registered_flag = omega (arith, ap (λ (z : Fixed). z.1) k.fixed.0, f.registered_flag);
        living_flag = omega (arith, ap (λ (z : Fixed). z.3) k.fixed.0, f.living_flag);
      }

  -- u: the table once it left the queue, which is then w
  module _ (u w : List ℕ) (step : Step t u x l w (head t)) (room : free_count u < slots u)
      (settled : view u r ≡ with_queue w (put x (settled_empty slot) (view t r))) (alone : count x w ≡ 0) (rest : (y : ℕ) → x ≢ y → count y w ≡ count y (queue_of t))
      (windows : OtherWindows t x w (fast_slot t) (budget t)) where
    -- the rules' step
    pub settled_view : view (retire_if found.disconnected u found.lane) r ≡ rules.settle_empty x w (view t r)
    unfolding retire_if rules.settle_empty rules.retire_lane_if
    settled_view = ap (λ (b : Bool). view (cond b (retire_lane u l) u) r) found_dropped ∙ go (not slot.living)
      where
        go : (b : Bool) → view (cond b (retire_lane u l) u) r ≡ rules.retire_lane_if b x (with_queue w (put x (settled_empty slot) (view t r)))
        go true =
            ap (λ (m : Lane). view (retire_lane u m) r) (sym step.own)
            ∙ view_retire_lane u r step.shaped x (rw (issued_kept step) h) room
            ∙ ap (rules.retire_lane x) settled
        go false = settled

    owes_settled : Owes t x l w (head t)
    owes_settled =
        record {
          flags = flags_settled;
          order = λ i. k.order;
          fast_below = o.stores.fast_below;
          once = omega (arith, alone);
          flagged = λ i. k.idle.unqueued ∙ sym alone;
          rest = rest;
          window = λ i n. absurd (omega (arith, k.idle.closed));
          windows = windows;
          lane_count = ap (λ (z : Fixed). lane_count t + z.1) (sym k.fixed.0);
          living_count = ap (λ (z : Fixed). living_count t + z.3) (sym k.fixed.0);
        }

    owes_retired : Owes t x (retired l) w (with_word lane_count (lane_count u - 1) (head t))
    owes_retired =
        let d = owes_settled in
        record {
          flags = record {
            pending_flag = flags_settled.pending_flag;
            queued_flag = flags_settled.queued_flag;
            paused_flag = omega arith;
            registered_flag = omega arith;
            living_flag = flags_settled.living_flag;
          };
          order = λ i. absurd (omega arith);
          fast_below = d.fast_below;
          once = d.once;
          flagged = λ i. absurd (omega arith);
          rest = d.rest;
          window = λ i n. absurd (omega arith);
          windows = d.windows;
          lane_count = omega (arith, lanes_now step, g, lane_counted t r o.stores x h g);
          living_count = d.living_count;
        }

    settled_stores : Stores (retire_if found.disconnected u found.lane) r
    unfolding retire_if
    settled_stores = go found.disconnected
      where
        go : (b : Bool) → Stores (cond b (retire_lane u l) u) r
        go true = stores_after_lem t r _ r o.stores x h (retired l) _ _ (step_retire_lane step l found_slot found_narrow h room) owes_retired o.stores.rings_room
        go false = stores_after_lem t r _ r o.stores x h l _ _ step owes_settled o.stores.rings_room

    pub settled_in_order : InOrderButHeld (retire_if found.disconnected u found.lane) r
    unfolding view
    settled_in_order =
        record {
          stores = settled_stores;
          ordered = subst Ordered (sym settled_view) (settle_empty_ordered x w (view t r) o.ordered (registered_seen t r o.stores x h g) rest alone);
        }
