-- An item of a window of the front lane: what the rules see of it, and that a store in order is left.
-- Assumes nothing.
use mathlib.Core.Path.{◌≡◌, refl, sym, ap, ap₂, ◌∙◌, subst}
use mathlib.Core.Bool.{Bool, false}
use mathlib.Core.List.{List, [], ◌∷◌, ◌++◌}
use Prim.Native.Nat.{ℕ, ◌+◌, ◌-◌, ◌<◌}
use native.Mathlib.Omega.{arith}
use borrow.Author.Tests.{ne_eqb}
use lib.Dec.{eqb}
use lib.ListN.{take}
use Rattle.model.specs.declared.LaneKey.{LaneKey}
use Rattle.model.specs.Lists.{if}
use Rattle.model.specs.State.{Slot, State, key_of, release_batch}
use Rattle.model.specs.Changes.{with_queue, with_budget, put, with_ring, popped}
use Rattle.model.specs.Order.{Ordered}
use Rattle.model.specs.Turn as rules
use Rattle.demands.proofs.OrderKept as kept
use Rattle.lane.specs.declared.lane.Lane.{Lane}
use Rattle.yring.specs.Ring.{new_ring}
use Rattle.lane.specs.Lane.{held_items}
use Rattle.lane.specs.Order.{InOrder}
use Rattle.lane.specs.Table.{head, NarrowLane, lane_at, put_lane}
use Rattle.lane.proofs.OrderLaws.{order_narrow}
use Rattle.queues.specs.Header.{budget, capacity, fast_slot, lane_count, living_count, set_fast_slot, set_budget}
use Rattle.queues.specs.Queue.{queue_of}
use Rattle.queues.proofs.QueueLaws.{shaped_put_lane}
use Rattle.store.specs.View.{slot_at, view}
use Rattle.store.specs.Order.{Stores, InOrderButHeld}
use Rattle.receive.specs.Receive.{take_from_window}
use Rattle.store.proofs.ViewLaws.{slot_in, view_put_holding, view_budget}
use Rattle.store.proofs.HeaderWords.{with_word}
use Rattle.store.proofs.StepLaws.{Step, step_start, step_put_lane, step_budget, step_fast_slot, issued_kept, capacity_kept, budget_now, step_has}
use Rattle.store.proofs.StoreLaws.{below_slots, Owes, stores_after_lem, windows_front}
use Rattle.store.proofs.LaneFields.{Flagged, flagged}
use Rattle.refinement.proofs.SameFlags.{flags_by, slot_by_lem, key_by}
use Rattle.store.proofs.LaneView.{unreleased_seen, burst_seen}
use Rattle.store.proofs.BetweenTurns.{FrontLane, front_lane_lem}
use Rattle.refinement.proofs.LeftView.{refill_some}
use Rattle.refinement.proofs.TurnView.{TookAs}

-- the lane in slot x with an item of its window less, its burst then n
pub record Pops (t r : List ℕ) (x item n : ℕ) (m : Lane) : Type 0 where
  pub takes : held_items (new_ring x (capacity t)) r (lane_at t x) ≡ item ∷ held_items (new_ring x (capacity t)) r m
  pub unreleased_more : unreleased_seen m ≡ unreleased_seen (lane_at t x) + 1
  pub below_batch : unreleased_seen (lane_at t x) + 1 < release_batch (capacity t)
  pub burst_is : burst_seen m ≡ n
  pub same_flags : flagged m ≡ flagged (lane_at t x)
  pub order : InOrder (capacity t) m
  -- "at most the budget", as that is after the item
  pub within : m.window < budget t

-- u is the table with `fast_slot` at the front lane
module _ (t r : List ℕ) (o : InOrderButHeld t r) (x : ℕ) (q : List ℕ) (e : queue_of t ≡ x ∷ q) (item n : ℕ) (m : Lane) (k : Pops t r x item n m)
    (u : List ℕ) (s : Step t u x (lane_at t x) (queue_of t) (with_word fast_slot x (head t))) (same : view u r ≡ view t r) where
  abbrev slot : Slot
  slot = (view t r).slot_of x

  abbrev left : List ℕ
  left = held_items (new_ring x (capacity t)) r m

  -- the table after
  abbrev taken : List ℕ
  taken = set_budget (put_lane u m) (budget u - 1)

  front : FrontLane t x q
  front = front_lane_lem t r o x q e

  sees : slot ≡ slot_at t r x
  sees = slot_in t r x front.is_issued

  narrow : NarrowLane m
  narrow = order_narrow (capacity t) o.stores.power.most m k.order

  flags_now : flagged m ≡ flagged (lane_at u x)
  flags_now = k.same_flags ∙ ap flagged (sym s.own)

  view_stored : view (put_lane u m) r ≡ put x (with_ring left (unreleased_seen m) (burst_seen m) slot) (view t r)
  view_stored =
      view_put_holding u r s.shaped x (rw (issued_kept s) front.is_issued) m (ap (λ (z : Flagged). z.0) flags_now) narrow left
      (ap (λ (C : ℕ). held_items (new_ring x C) r m) (capacity_kept s))
      (ap (λ (z : Flagged). z.1) flags_now) (ap (λ (z : Flagged). z.3) flags_now) (ap (λ (z : Flagged). z.2) flags_now) (ap (λ (z : Flagged). z.5) flags_now)
      ∙ ap (λ (v : State). put x (with_ring left (unreleased_seen m) (burst_seen m) (v.slot_of x)) v) same

  unreleased_now : unreleased_seen m ≡ rules.unreleased_after_one (view t r) x
  unfolding rules.unreleased_after_one slot_at view
  unreleased_now =
      k.unreleased_more ∙ sym (rw (ne_eqb (unreleased_seen (lane_at t x) + 1) (release_batch (capacity t)) (λ z. omega (arith, k.below_batch))))
      ∙ ap (λ (y : Slot). if (eqb (y.unreleased + 1) (release_batch (capacity t))) 0 (y.unreleased + 1)) (sym sees)

  -- the rules' step; the lane is at the back where that is the front
  module _ (back : Bool) (turned : if back (q ++ (x ∷ [])) (x ∷ q) ≡ x ∷ q) (burst : n ≡ if back 0 (slot.burst + 1)) where
    pub window_view : view taken r ≡ rules.give_item (view t r) x q left back
    unfolding rules.give_item view
    window_view =
        view_budget (put_lane u m) r (shaped_put_lane u s.shaped m) (budget u - 1)
        ∙ ap₂ (λ (b : ℕ) (v : State). with_budget (b - 1) v) (budget_now s ∙ sym (refill_some (budget t) (omega (arith, k.within)))) view_stored
        ∙ ap₂ (λ (w : List ℕ) (a : ℕ). with_budget (rules.refill (budget t) - 1) (with_queue w (put x (popped left a (burst_seen m) slot) (view t r)))) (e ∙ sym turned) unreleased_now
        ∙ ap (λ (b : ℕ). with_budget (rules.refill (budget t) - 1) (with_queue (if back (q ++ (x ∷ [])) (x ∷ q)) (put x (popped left (rules.unreleased_after_one (view t r) x) b slot) (view t r)))) (k.burst_is ∙ burst)

    window_ordered : (back ≡ false → slot.burst < 63) → Ordered (view taken r)
    unfolding view
    window_ordered h = subst Ordered (sym window_view) (kept.give_item_ordered (view t r) x q left back e h o.ordered)

  owes_taken : Owes t x m (queue_of t) (with_word budget (budget u - 1) (with_word fast_slot x (head t)))
  owes_taken =
      record {
        flags = flags_by (lane_at t x) m k.same_flags (o.stores.flags x front.is_issued);
        order = λ i. k.order;
        fast_below = below_slots t r o.stores x front.is_issued;
        once = o.stores.named.once x;
        flagged = λ i. ap (λ (z : Flagged). z.4) k.same_flags ∙ o.stores.named.flagged x front.is_issued front.registered;
        rest = λ y d. refl;
        window = λ i w. record { at_fast = refl; in_front = ap (take 1) e; within = omega (arith, k.within, budget_now s) };
        windows = windows_front t r o.stores x q e (queue_of t) x (budget u - 1);
        lane_count = ap (λ (z : Flagged). lane_count t + z.1) (sym k.same_flags);
        living_count = ap (λ (z : Flagged). living_count t + z.3) (sym k.same_flags);
      }

  window_stores : Stores taken r
  window_stores =
      stores_after_lem t r taken r o.stores x front.is_issued m _ _ (step_budget (step_put_lane s m (slot_by_lem t x m k.same_flags) narrow front.is_issued) (budget u - 1))
      owes_taken o.stores.rings_room

  pub window_first : slot.ring ≡ item ∷ left
  unfolding slot_at
  window_first = ap (λ (y : Slot). y.ring) sees ∙ k.takes

  -- what the take comes to
  pub window_took : (back : Bool) → if back (q ++ (x ∷ [])) (x ∷ q) ≡ x ∷ q → n ≡ if back 0 (slot.burst + 1) → (back ≡ false → slot.burst < 63)
      → TookAs r (take_from_window u item m) ((key_of (view t r) x, item) ∷ [], rules.give_item (view t r) x q left back)
  unfolding take_from_window
  window_took back turned burst below =
      record {
        alike = ap₂ (λ (a : LaneKey) (b : State). ((a, item) ∷ [], b)) (key_by t x m k.same_flags r front.is_issued) (window_view back turned burst);
        in_order = record { stores = window_stores; ordered = window_ordered back turned burst below };
      }

-- ---- `fast_slot` at the front lane

module _ (t r : List ℕ) (o : Stores t r) (x : ℕ) where
  pub step_fast_same : fast_slot t ≡ x → Step t t x (lane_at t x) (queue_of t) (with_word fast_slot x (head t))
  step_fast_same e = step_has (step_start t r o x) fast_slot x refl e

  pub step_fast_moved : Step t (set_fast_slot t x) x (lane_at t x) (queue_of t) (with_word fast_slot x (head t))
  step_fast_moved = step_fast_slot (step_start t r o x) x
