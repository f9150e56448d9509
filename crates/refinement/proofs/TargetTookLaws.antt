-- A targeted receive of a lane that has an item: what the rules see of it, and that a store in order is left.
-- Assumes nothing.
use Rattle.std.specs.Prelude.{Ok}
use mathlib.Core.Path.{◌≡◌, refl, sym, ap, ◌∙◌, subst}
use mathlib.Core.Bool.{Bool, true, false, cond, not, ◌&&◌}
use mathlib.Core.List.{List, [], ◌∷◌, ◌++◌}
use Prim.Native.Nat.{ℕ, ◌+◌, ◌-◌, ◌<◌}
use native.Mathlib.Omega.{arith}
use borrow.Author.Tests.{eq-eqb, eqb-true}
use lib.Dec.{eqb}
use Rattle.model.specs.Lists.{count}
use Rattle.model.specs.State as states
use Rattle.model.specs.State.{Slot, State}
use Rattle.model.specs.Changes.{with_queue, put, with_signal, popped, signalled}
use Rattle.model.specs.Turn as turns
use Rattle.model.specs.Receive as rules
use Rattle.lane.specs.declared.lane.Lane.{Lane}
use Rattle.yring.specs.Ring.{new_ring}
use Rattle.lane.specs.Lane.{held_items, refill, ready_or_idle, targeted, pop_targeted}
use Rattle.lane.specs.Order.{InOrder, Filled}
use Rattle.lane.specs.Table.{head, NarrowLane, lane_at, put_lane}
use Rattle.lane.proofs.OrderLaws.{order_narrow, pop_targeted_keeps}
use Rattle.lane.proofs.HeldLaws.{reload_holds, pop_targeted_takes_first}
use Rattle.lane.proofs.TableLaws.{frames}
use Rattle.queues.specs.Header.{Shaped, issued, slots, queue_count, budget, capacity, lane_count, living_count}
use Rattle.queues.specs.Queue.{queue_of, push_back}
use Rattle.ready.specs.Ready.{page_bit}
use Rattle.queues.proofs.QueueLaws.{shaped_put_lane, length_queue}
use Rattle.store.specs.View.{flag, slot_of, slot_at, view}
use Rattle.store.specs.Order.{Flags, Stores, StoreInOrder}
use Rattle.store.specs.Signal.{mark_if_idle}
use Rattle.control.specs.Control.{with_turn}
use Rattle.all_lanes.specs.AllLanes.{may_queue}
use Rattle.receive_from.specs.Target.{queue_target, keep_target}
use Rattle.store.proofs.ViewLaws.{slot_in, view_put_lane, view_pushed_back, put_put, put_own}
use Rattle.store.proofs.StepLaws.{Step, step_start, step_put_lane, step_pushed_back}
use Rattle.store.proofs.StoreLaws.{stores_after_lem, windows_kept, windows_pushed_back, issued_ring_in, room_in_queue}
use Rattle.store.proofs.SignalLaws.{idle_flag, marked_if, view_put_marked_if_idle, step_marked_if_idle}
use Rattle.store.proofs.SignalFrames.{shaped_marked_if_idle, head_marked_if_idle}
use Rattle.store.proofs.BackLaws.{back_own, back_other}
use Rattle.refinement.proofs.SameFlags.{flags_by, slot_by_lem}
use Rattle.store.proofs.LaneFields.{Flagged, flagged, flagged_reload, flagged_targeted}
use Rattle.store.proofs.LaneView.{looked, looked_counts, pop_targeted_counts, unreleased_after, unreleased_seen, burst_seen}
use Rattle.receive_from.proofs.TargetLaws.{target_filled}
use Rattle.all_lanes.proofs.PollAllLaws.{may_queue_alike}
use Rattle.refinement.proofs.EmptyLaneLaws.{slot_path}

-- the lane that was looked at, one item later
abbrev pub target_lane : List ℕ → List ℕ → ℕ → Lane
target_lane t r x = (pop_targeted (new_ring x (capacity t)) r (looked (lane_at t x))).lane

-- the items left in its ring
abbrev pub target_rest : List ℕ → List ℕ → ℕ → List ℕ
target_rest t r x = held_items (new_ring x (capacity t)) r (target_lane t r x)

-- ---- the lane

closed_less : (u w : ℕ) → w ≡ 0 → u - w ≡ u
closed_less u w e = omega arith

module _ (t r : List ℕ) (o : StoreInOrder t r) (x : ℕ) (h : x < issued t) (g : (lane_at t x).registered ≡ 1) (s : eqb (looked (lane_at t x)).cached 0 ≡ false) where
  abbrev old : Lane
  old = lane_at t x

  abbrev new : Lane
  new = target_lane t r x

  abbrev slot : Slot
  slot = (view t r).slot_of x

  sees : slot ≡ slot_at t r x
  sees = slot_in t r x h

  pub target_ready : refill (lane_at t x) ≡ Ok (looked (lane_at t x))
  unfolding refill ready_or_idle
  target_ready = rw s

  filled : Filled (capacity t) (looked old)
  filled = target_filled t r o x h g (looked old) target_ready

  same_flags : flagged new ≡ flagged old
  same_flags = flagged_targeted (new_ring x (capacity t)) r (looked old) ∙ flagged_reload _

  own_slot : new.key.slot ≡ x
  own_slot = slot_by_lem t x new same_flags

  keeps : InOrder (capacity t) new
  keeps = pop_targeted_keeps (new_ring x (capacity t)) o.stores.power.most r (looked old) filled

  narrow : NarrowLane new
  narrow = order_narrow (capacity t) o.stores.power.most new keeps

  -- the item is the oldest that the lane holds
  pub target_takes : ((view t r).slot_of x).ring ≡ (pop_targeted (new_ring x (capacity t)) r (looked (lane_at t x))).item ∷ target_rest t r x
  unfolding slot_at pop_targeted targeted
  target_takes =
      ap (λ (m : Slot). m.ring) sees ∙ sym (reload_holds (new_ring x (capacity t)) r old)
      ∙ pop_targeted_takes_first (new_ring x (capacity t)) r (looked old) (issued_ring_in t r o.stores x h) filled

  counts : (new.unreleased ≡ unreleased_after (capacity t) (unreleased_seen old)) × (new.burst ≡ burst_seen old) × (new.window ≡ 0)
  counts =
      let c = looked_counts old in
      let d = pop_targeted_counts (new_ring x (capacity t)) r (looked old) c.2 in
      (d.0 ∙ ap (unreleased_after (capacity t)) c.0, d.1 ∙ c.1, d.2)

  -- the slot one item later
  abbrev taken : Slot
  taken = popped (target_rest t r x) (turns.unreleased_after_one (view t r) x) slot.burst slot

  unreleased_taken : new.unreleased - new.window ≡ turns.unreleased_after_one (view t r) x
  unfolding turns.unreleased_after_one slot_at view
  unreleased_taken =
      closed_less new.unreleased new.window counts.2 ∙ counts.0 ∙ ap (unreleased_after (capacity t)) (sym (ap (λ (m : Slot). m.unreleased) sees))

  burst_taken : new.burst - new.window ≡ slot.burst
  unfolding slot_at
  burst_taken = closed_less new.burst new.window counts.2 ∙ counts.1 ∙ sym (ap (λ (m : Slot). m.burst) sees)

  slot_taken : slot_of new (page_bit t x) (target_rest t r x) ≡ taken
  unfolding slot_at
  slot_taken =
      slot_path _ _
      (ap (λ (z : Flagged). flag z.1) same_flags ∙ sym (ap (λ (m : Slot). m.registered) sees))
      (ap (λ (z : Flagged). flag z.3) same_flags ∙ sym (ap (λ (m : Slot). m.living) sees))
      (ap (λ (z : Flagged). flag z.2) same_flags ∙ sym (ap (λ (m : Slot). m.paused) sees))
      (ap (λ (z : Flagged). flag z.5) same_flags ∙ sym (ap (λ (m : Slot). m.pending) sees))
      (sym (ap (λ (m : Slot). m.marked) sees))
      (ap (λ (z : Flagged). z.0.generation) same_flags ∙ sym (ap (λ (m : Slot). m.generation) sees))
      refl unreleased_taken burst_taken

  -- ---- it is stored, and stays where it was

  view_stored : view (put_lane t new) r ≡ put x taken (view t r)
  view_stored = view_put_lane t o.stores.shaped new x own_slot narrow h r ∙ ap (λ (m : Slot). put x m (view t r)) slot_taken

  flags_stored : Flags new
  flags_stored = flags_by old new same_flags (o.stores.flags x h)

  stores_stored : Stores (put_lane t new) r
  stores_stored =
      stores_after_lem t r (put_lane t new) r o.stores x h new (queue_of t) (head t)
      (step_put_lane (step_start t r o.stores x) new own_slot narrow h)
      (record {
        flags = flags_stored;
        order = λ e. keeps;
        fast_below = o.stores.fast_below;
        once = o.stores.named.once x;
        flagged = λ e. ap (λ (z : Flagged). z.4) same_flags ∙ o.stores.named.flagged x h g;
        rest = λ y n. refl;
        window = λ e w. absurd (omega (arith, counts.2));
        windows = windows_kept t r o.stores x (budget t) (omega arith);
        lane_count = ap (λ (z : Flagged). lane_count t + z.1) (sym same_flags);
        living_count = ap (λ (z : Flagged). living_count t + z.3) (sym same_flags);
      })
      o.stores.rings_room

  -- ---- unpaused and unqueued: it is queued

  module _ (p : old.paused ≡ 0) (q : old.queued ≡ 0) where
    abbrev turned : Lane
    turned = with_turn 1 1 0 new

    abbrev marked : List ℕ
    marked = mark_if_idle (put_lane t turned) new

    unnamed : count x (queue_of t) ≡ 0
    unnamed = sym (o.stores.named.flagged x h g) ∙ q

    room : queue_count t < slots t
    room = room_in_queue t r o.stores x h g q

    shaped_turned : Shaped (put_lane t turned)
    shaped_turned = shaped_put_lane t o.stores.shaped turned

    slot_turned : slot_of turned (page_bit t x) (held_items (new_ring x (capacity t)) r turned) ≡ with_signal true slot.marked taken
    unfolding held_items slot_at
    slot_turned =
        slot_path _ _
        (ap (λ (m : Slot). m.registered) slot_taken) (ap (λ (m : Slot). m.living) slot_taken) (sym (ap (λ (m : Slot). m.paused) sees ∙ ap flag p))
        refl (ap (λ (m : Slot). m.marked) slot_taken) (ap (λ (m : Slot). m.generation) slot_taken) refl unreleased_taken burst_taken

    was_idle : eqb new.pending 0 ≡ not slot.pending
    unfolding slot_at
    was_idle =
        idle_flag new.pending flags_stored.pending_flag ∙ ap not (ap (λ (z : Flagged). flag z.5) same_flags ∙ sym (ap (λ (m : Slot). m.pending) sees))

    view_turned : view marked r ≡ put x (signalled taken) (view t r)
    view_turned =
        view_put_marked_if_idle (put_lane t turned) r shaped_turned new x own_slot (simp frames h) _ (view t r)
        (view_put_lane t o.stores.shaped turned x own_slot narrow h r ∙ ap (λ (m : Slot). put x m (view t r)) slot_turned)
        ∙ ap (λ (b : Bool). put x (marked_if b (with_signal true slot.marked taken)) (view t r)) was_idle

    queued_is : queue_target t new ≡ push_back marked x
    unfolding queue_target
    queued_is = ap (push_back marked) own_slot

    view_queued : view (queue_target t new) r ≡ rules.queue_lane_if true x (put x taken (view t r))
    unfolding rules.queue_lane_if
    view_queued =
        ap (λ (u : List ℕ). view u r) queued_is
        ∙ view_pushed_back marked r (shaped_marked_if_idle (put_lane t turned) new shaped_turned) x (simp (head_marked_if_idle, frames) room)
        ∙ ap (λ (v : State). with_queue (v.queue ++ (x ∷ [])) v) view_turned
        ∙ ap (with_queue ((view t r).queue ++ (x ∷ [])))
        (sym (ap (λ (m : Slot). put x (signalled m) (put x taken (view t r))) (put_own x taken (view t r)) ∙ put_put x (signalled taken) taken (view t r)))

    step_queued : Step t (queue_target t new) x turned (queue_of t ++ (x ∷ [])) (head t)
    step_queued =
        let start = step_start t r o.stores x in
        subst (λ (u : List ℕ). Step t u x turned (queue_of t ++ (x ∷ [])) (head t)) (sym queued_is)
        (step_pushed_back (step_marked_if_idle (step_put_lane start turned own_slot narrow h) new (rw own_slot h)) x (rw (length_queue t) room))

    stores_queued : Stores (queue_target t new) r
    stores_queued =
        stores_after_lem t r (queue_target t new) r o.stores x h turned _ _ step_queued
        (record {
          flags = record {
            pending_flag = omega arith;
            queued_flag = omega arith;
            paused_flag = omega arith;
            registered_flag = flags_stored.registered_flag;
            living_flag = flags_stored.living_flag;
          };
          order = λ e. record { cursors = keeps.cursors; counts = keeps.counts };
          fast_below = o.stores.fast_below;
          once = omega (arith, back_own x (queue_of t) unnamed);
          flagged = λ e. sym (back_own x (queue_of t) unnamed);
          rest = λ y n. back_other x y (queue_of t) n;
          window = λ e w. absurd (omega (arith, counts.2));
          windows = windows_pushed_back t r o.stores x x;
          lane_count = ap (λ (z : Flagged). lane_count t + z.1) (sym same_flags);
          living_count = ap (λ (z : Flagged). living_count t + z.3) (sym same_flags);
        })
        o.stores.rings_room

  -- ---- "works on a paused lane, queues an unpaused one"

  kept_cases : (P : List ℕ → Bool → Type 0) → (old.paused ≡ 0 → old.queued ≡ 0 → P (queue_target t new) true) → P (put_lane t new) false
      → P (keep_target t new) (states.may_queue (view t r) x)
  unfolding keep_target may_queue
  kept_cases P back stays =
      subst (P (keep_target t new)) (may_queue_alike t r o.stores x h)
      (rw (eq-eqb old.registered 1 g)
      (subst (λ (n : ℕ). P (cond (eqb n 0) (cond (eqb new.queued 0) (queue_target t new) (put_lane t new)) (put_lane t new)) (eqb old.paused 0 && eqb old.queued 0))
      (sym (ap (λ (z : Flagged). z.2) same_flags))
      (subst (λ (n : ℕ). P (cond (eqb old.paused 0) (cond (eqb n 0) (queue_target t new) (put_lane t new)) (put_lane t new)) (eqb old.paused 0 && eqb old.queued 0))
      (sym (ap (λ (z : Flagged). z.4) same_flags))
      (go (eqb old.paused 0) refl (eqb old.queued 0) refl))))
    where
      go : (b : Bool) → eqb old.paused 0 ≡ b → (c : Bool) → eqb old.queued 0 ≡ c → P (cond b (cond c (queue_target t new) (put_lane t new)) (put_lane t new)) (b && c)
      go true e true f = back (eqb-true _ 0 e) (eqb-true _ 0 f)
      go true e false f = stays
      go false e c f = stays

  pub target_view : view (keep_target t (target_lane t r x)) r
      ≡ rules.queue_lane_if (states.may_queue (view t r) x) x (put x (popped (target_rest t r x) (turns.unreleased_after_one (view t r) x) ((view t r).slot_of x).burst ((view t r).slot_of x)) (view t r))
  unfolding rules.queue_lane_if
  target_view = kept_cases (λ u b. view u r ≡ rules.queue_lane_if b x (put x taken (view t r))) (λ p q. view_queued p q) view_stored

  pub target_stores : Stores (keep_target t (target_lane t r x)) r
  target_stores = kept_cases (λ u b. Stores u r) (λ p q. stores_queued p q) stores_stored
