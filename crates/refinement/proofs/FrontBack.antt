-- The front lane goes back to its slot with items less, and to the back of the queue where its turn is over.
-- Assumes nothing.
use mathlib.Core.Path.{◌≡◌, refl, sym, ap, ap₂, ◌∙◌, subst}
use mathlib.Core.Logic.{◌≢◌}
use mathlib.Core.Bool.{Bool, true, false, cond}
use mathlib.Core.List.{List, [], ◌∷◌, ◌++◌}
use Prim.Native.Nat.{ℕ, ◌+◌, ◌-◌}
use native.Mathlib.Omega.{arith}
use Rattle.model.specs.Lists.{if, count}
use Rattle.model.specs.State.{State}
use Rattle.model.specs.Changes.{with_queue, with_budget, put, with_ring, popped}
use Rattle.demands.proofs.OrderKept as kept
use Rattle.lane.specs.declared.lane.Lane.{Lane}
use Rattle.yring.specs.Ring.{new_ring}
use Rattle.lane.specs.Lane.{held_items}
use Rattle.lane.specs.Order.{InOrder}
use Rattle.lane.specs.Table.{head, NarrowLane, lane_at, put_lane}
use Rattle.lane.proofs.OrderLaws.{order_narrow}
use Rattle.queues.specs.Header.{budget, capacity, fast_slot, lane_count, living_count, set_budget}
use Rattle.queues.specs.Queue.{queue_of, rotate_left}
use Rattle.queues.proofs.QueueLaws.{queue_put_lane, shaped_put_lane}
use Rattle.store.specs.View.{view}
use Rattle.store.specs.Order.{Stores, InOrderButHeld}
use Rattle.turns.specs.Turn.{rotate_if}
use Rattle.store.proofs.ViewLaws.{view_put_holding, view_rotated, view_budget}
use Rattle.store.proofs.HeaderWords.{with_word}
use Rattle.store.proofs.StepLaws.{Step, step_start, step_put_lane, step_rotated, step_budget}
use Rattle.store.proofs.StoreLaws.{Owes, stores_after_lem, windows_front}
use Rattle.store.proofs.BackLaws.{back_own, back_other}
use Rattle.store.proofs.LaneFields.{Flagged, flagged}
use Rattle.refinement.proofs.SameFlags.{flags_by, slot_by_lem}
use Rattle.store.proofs.BetweenTurns.{FrontLane, front_lane_lem}

less_none : {a b : ℕ} → b ≡ 0 → a - b ≡ a
less_none z = omega arith

-- the lane in slot x, with its window closed and its flags as they were
pub record Back (t : List ℕ) (x : ℕ) (m : Lane) : Type 0 where
  pub same_flags : flagged m ≡ flagged (lane_at t x)
  pub order : InOrder (capacity t) m
  pub closed : m.window ≡ 0

module _ (t r : List ℕ) (o : InOrderButHeld t r) (x : ℕ) (q : List ℕ) (e : queue_of t ≡ x ∷ q) (rotate : Bool) (m : Lane) (k : Back t x m) (b : ℕ) where
  -- the items left
  abbrev left : List ℕ
  left = held_items (new_ring x (capacity t)) r m

  front : FrontLane t x q
  front = front_lane_lem t r o x q e

  narrow : NarrowLane m
  narrow = order_narrow (capacity t) o.stores.power.most m k.order

  -- the slot as the rules then have it
  abbrev stored : State
  stored = put x (popped left m.unreleased m.burst ((view t r).slot_of x)) (view t r)

  view_stored : view (put_lane t m) r ≡ stored
  view_stored =
      view_put_holding t r o.stores.shaped x front.is_issued m (ap (λ (z : Flagged). z.0) k.same_flags) narrow left refl
      (ap (λ (z : Flagged). z.1) k.same_flags) (ap (λ (z : Flagged). z.3) k.same_flags)
      (ap (λ (z : Flagged). z.2) k.same_flags) (ap (λ (z : Flagged). z.5) k.same_flags)
      ∙ ap₂ (λ (u n : ℕ). put x (with_ring left u n ((view t r).slot_of x)) (view t r)) (less_none k.closed) (less_none k.closed)

  queue_stored : (view (put_lane t m) r).queue ≡ x ∷ q
  unfolding view
  queue_stored = queue_put_lane t m ∙ e

  abbrev queue_after : Bool → List ℕ
  queue_after b = if b (q ++ (x ∷ [])) (x ∷ q)

  view_turned : (b : Bool) → view (cond b (rotate_left (put_lane t m)) (put_lane t m)) r ≡ with_queue (queue_after b) (view (put_lane t m) r)
  view_turned true = view_rotated (put_lane t m) r (shaped_put_lane t o.stores.shaped m) x q queue_stored
  view_turned false = ap (λ (w : List ℕ). with_queue w (view (put_lane t m) r)) queue_stored

  step_turned : (b : Bool) → Step t (cond b (rotate_left (put_lane t m)) (put_lane t m)) x m (queue_after b) (head t)
  step_turned b = go b (step_put_lane (step_start t r o.stores x) m (slot_by_lem t x m k.same_flags) narrow front.is_issued)
    where
      go : (b : Bool) → Step t (put_lane t m) x m (queue_of t) (head t)
          → Step t (cond b (rotate_left (put_lane t m)) (put_lane t m)) x m (queue_after b) (head t)
      go true s = step_rotated s x q e
      go false s = subst (λ (w : List ℕ). Step t (put_lane t m) x m w (head t)) e s

  -- with b as the budget
  pub back_view : view (set_budget (rotate_if rotate (put_lane t m)) b) r ≡ with_budget b (with_queue (if rotate (q ++ (x ∷ [])) (x ∷ q)) stored)
  unfolding rotate_if
  back_view =
      view_budget _ r (step_turned rotate).shaped b ∙ ap (with_budget b) (view_turned rotate) ∙ ap (λ (s : State). with_budget b (with_queue (queue_after rotate) s)) view_stored

  -- it stands in the queue as before
  counts_own : (b : Bool) → count x (queue_after b) ≡ 1
  counts_own true = back_own x q front.alone
  counts_own false = omega (arith, kept.first_own x q, front.alone)

  counts_others : (b : Bool) (y : ℕ) → x ≢ y → count y (queue_after b) ≡ count y (queue_of t)
  counts_others true y d = back_other x y q d ∙ sym (ap (count y) e ∙ kept.first_other x y q d)
  counts_others false y d = sym (ap (count y) e)

  owes_back : Owes t x m (queue_after rotate) (with_word budget b (head t))
  owes_back =
      record {
        flags = flags_by (lane_at t x) m k.same_flags (o.stores.flags x front.is_issued);
        order = λ i. k.order;
        fast_below = o.stores.fast_below;
        once = omega (arith, counts_own rotate);
        flagged = λ i. ap (λ (z : Flagged). z.4) k.same_flags ∙ front.queued ∙ sym (counts_own rotate);
        rest = counts_others rotate;
        window = λ i w. absurd (omega (arith, k.closed));
        windows = windows_front t r o.stores x q e (queue_after rotate) (fast_slot t) b;
        lane_count = ap (λ (z : Flagged). lane_count t + z.1) (sym k.same_flags);
        living_count = ap (λ (z : Flagged). living_count t + z.3) (sym k.same_flags);
      }

  pub back_stores : Stores (set_budget (rotate_if rotate (put_lane t m)) b) r
  unfolding rotate_if
  back_stores = stores_after_lem t r _ r o.stores x front.is_issued m _ _ (step_budget (step_turned rotate) b) owes_back o.stores.rings_room
