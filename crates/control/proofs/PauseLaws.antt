-- Pausing a lane does what the rules say, and leaves a store in order.
-- Assumes nothing.
use mathlib.Core.Path.{◌≡◌, refl, sym, ap, ◌∙◌, subst}
use mathlib.Core.Bool.{true}
use mathlib.Core.List.{List}
use Prim.Native.Nat.{ℕ, ◌-◌, ◌<◌}
use native.Mathlib.Omega.{arith}
use Rattle.model.specs.declared.LaneId.{LaneId}
use Rattle.model.specs.declared.Answer.TheVariants.{Done}
use Rattle.model.specs.Lists as lists
use Rattle.model.specs.State.{Slot, State}
use Rattle.model.specs.Changes.{with_queue, put, with_flags, with_signal, with_ring, with_paused, credited}
use Rattle.model.specs.Outcome.{says}
use Rattle.model.specs.Control as rules
use Rattle.demands.proofs.Counting.{without_own, without_other}
use Rattle.lane.specs.declared.lane.Lane.{Lane}
use Rattle.lane.specs.Order.{InOrder}
use Rattle.lane.specs.Table.{head, NarrowLane, lane_at, put_lane}
use Rattle.lane.proofs.OrderLaws.{order_narrow, release_pending_keeps}
use Rattle.lane.proofs.TableLaws.{slot_of_lane}
use Rattle.lane.specs.Lane.{release_pending}
use Rattle.queues.specs.Header.{issued, capacity}
use Rattle.queues.specs.Queue.{queue_of, remove}
use Rattle.queues.proofs.QueueLaws.{shaped_put_lane}
use Rattle.store.specs.View.{flag, slot_at, view}
use Rattle.store.specs.Order.{Flags, Stores, StoreInOrder}
use Rattle.store.specs.Refusal.{id_verdict}
use Rattle.control.specs.Control.{paused_lane, pause_lane, pause}
use Rattle.store.proofs.ViewLaws.{slot_in, view_put_same_ends, view_removed}
use Rattle.store.proofs.RefusalLaws.{seen, id_verdict_lem, id_passes, refused_alike, unless_refused_case}
use Rattle.store.proofs.StepLaws.{Step, step_start, step_put_lane, step_removed}
use Rattle.store.proofs.StoreLaws.{registered_seen, Owes, stores_after_lem, windows_without}
use Rattle.store.proofs.CreditLaws.{GivesBack, gives_back, credited_by}

module _ (t r : List ℕ) (o : StoreInOrder t r) (x : ℕ) (h : x < issued t) (g : (lane_at t x).registered ≡ 1) where
  abbrev old : Lane
  old = lane_at t x

  abbrev new : Lane
  new = paused_lane old

  abbrev slot : Slot
  slot = (view t r).slot_of x

  back : GivesBack old (release_pending old).lane
  back = gives_back old

  own_slot : new.key.slot ≡ x
  unfolding paused_lane
  own_slot = ap (λ k. k.slot) back.same_key ∙ slot_of_lane t x

  -- what the rules see of the lane before
  sees : slot ≡ slot_at t r x
  sees = slot_in t r x h

  -- the rules' slot, with the credit back
  slot_paused : with_flags (flag new.registered) (flag new.living) (flag new.paused) (with_signal (flag new.pending) slot.marked (with_ring slot.ring (new.unreleased - new.window) (new.burst - new.window) slot))
      ≡ with_paused true (credited slot)
  unfolding paused_lane slot_at
  slot_paused =
      credited_by slot _ _ _ _ _ true
      (ap flag back.same_registered ∙ sym (ap (λ (m : Slot). m.registered) sees))
      (ap flag back.same_living ∙ sym (ap (λ (m : Slot). m.living) sees))
      (sym (ap (λ (m : Slot). m.pending) sees))
      (registered_seen t r o.stores x h g)
      (omega (arith, back.unreleased))
      (omega (arith, back.window, back.burst) ∙ sym (ap (λ (m : Slot). m.burst) sees))

  paused_is : pause_lane t old ≡ remove (put_lane t new) x
  unfolding pause_lane
  paused_is = ap (remove (put_lane t new)) (slot_of_lane t x)

  order_paused : InOrder (capacity t) new
  unfolding paused_lane
  order_paused =
      let k = release_pending_keeps (capacity t) o.stores.power.most old (o.stores.lanes x h g) in
      record { cursors = k.cursors; counts = k.counts }

  narrow_paused : NarrowLane new
  narrow_paused = order_narrow (capacity t) o.stores.power.most new order_paused

  view_paused : view (pause_lane t old) r ≡ with_queue (lists.without x (view t r).queue) (put x (with_paused true (credited slot)) (view t r))
  unfolding paused_lane
  view_paused =
      ap (λ (u : List ℕ). view u r) paused_is
      ∙ view_removed (put_lane t new) r (shaped_put_lane t o.stores.shaped new) x
      ∙ ap (λ (s : State). with_queue (lists.without x s.queue) s)
      (view_put_same_ends t r o.stores.shaped x h new back.same_key narrow_paused back.same_head back.same_tail
      ∙ ap (λ (m : Slot). put x m (view t r)) slot_paused)

  step_paused : Step t (pause_lane t old) x new (lists.without x (queue_of t)) (head t)
  step_paused =
      subst (λ (u : List ℕ). Step t u x new (lists.without x (queue_of t)) (head t)) (sym paused_is)
      (step_removed (step_put_lane (step_start t r o.stores x) new own_slot narrow_paused h) x)

  flags_paused : Flags new
  unfolding paused_lane
  flags_paused =
      let f = o.stores.flags x h in
      record {
        pending_flag = f.pending_flag;
        queued_flag = omega arith;
        paused_flag = omega arith;
        registered_flag = rw back.same_registered f.registered_flag;
        living_flag = rw back.same_living f.living_flag;
      }

  owes_paused : Owes t x new (lists.without x (queue_of t)) (head t)
  unfolding paused_lane
  owes_paused =
      record {
        flags = flags_paused;
        order = λ e. order_paused;
        fast_below = o.stores.fast_below;
        once = omega (arith, without_own x (queue_of t));
        flagged = λ e. sym (without_own x (queue_of t));
        rest = λ y n. without_other x y (queue_of t) n;
        window = λ e w. absurd (omega (arith, back.window));
        windows = windows_without t r o.stores x;
        lane_count = rw back.same_registered refl;
        living_count = rw back.same_living refl;
      }

  stores_paused : Stores (pause_lane t old) r
  stores_paused =
      stores_after_lem t r (pause_lane t old) r o.stores x h new _ _ step_paused owes_paused o.stores.rings_room

pub pause_alike : (t r : List ℕ) (i : LaneId) → StoreInOrder t r → seen (pause t r i) ≡ (rules.pause (view t r) i).1
unfolding pause rules.pause
pause_alike t r i o =
    refused_alike (id_verdict t i) _ t r (Done, pause_lane t (lane_at t i.key.slot), r) (says Done _) (id_verdict_lem t r i)
    (λ e. let k = (id_passes t i e).1 in ap (λ (s : State). (Done, s)) (view_paused t r o i.key.slot k.is_issued k.registered))

pub pause_keeps : (t r : List ℕ) (i : LaneId) → StoreInOrder t r → Stores (pause t r i).1 (pause t r i).2
unfolding pause
pause_keeps t r i o =
    unless_refused_case (λ w. Stores w.1 w.2) (id_verdict t i) t r (Done, pause_lane t (lane_at t i.key.slot), r) (λ why e. o.stores)
    (λ e. let k = (id_passes t i e).1 in stores_paused t r o i.key.slot k.is_issued k.registered)
