-- The fast window and the front lane's window: an item of either is the one that the rules take.
-- Assumes nothing.
use Rattle.std.specs.Prelude.{Option, Some, None}
use mathlib.Core.Path.{◌≡◌, refl, sym, ap, ◌∙◌, subst}
use mathlib.Core.Bool.{Bool, true, false, cond}
use mathlib.Core.List.{List, [], ◌∷◌}
use Prim.Native.Nat.{ℕ, ◌+◌, ◌≤◌, ◌<◌}
use native.Mathlib.Omega.{arith}
use borrow.Author.Tests.{ltb-true, eqb-true, eqb-false, lt-leb}
use lib.Dec.{eqb, ltb}
use lib.ListN.{length, take, drop}
use Rattle.model.specs.State.{Slot, key_of}
use Rattle.model.specs.Turn as rules
use Rattle.demands.proofs.FrontItem.{take_one_front}
use Rattle.yring.specs.declared.ring.Ring.{Ring}
use Rattle.lane.specs.declared.lane.Lane.{Lane}
use Rattle.yring.specs.Ring.{new_ring, item_at}
use Rattle.lane.specs.Lane.{held_items, window_pop, pop_fast, grant_fast}
use Rattle.lane.specs.Order.{InOrder, popped_lane}
use Rattle.lane.specs.Table.{head, lane_at}
use Rattle.lane.proofs.OrderLaws.{cond_holds, pop_fast_keeps, grant_fast_keeps}
use Rattle.lane.proofs.HeldLaws.{pop_fast_takes_first}
use Rattle.queues.specs.Header.{issued, queue_count, budget, capacity, fast_slot, set_fast_slot}
use Rattle.queues.specs.Queue.{queue_of, front_slot, pop_front}
use Rattle.queues.proofs.QueueLaws.{queue_front_lem}
use Rattle.turns.specs.declared.turn.Took.{Took}
use Rattle.store.specs.View.{slot_at, view}
use Rattle.store.specs.Order.{Stores, InOrderButHeld}
use Rattle.turns.specs.Turn.{front_lane}
use Rattle.receive.specs.Receive.{take_from_window, fast_took, take_fast, take_if_popped, take_front_window}
use Rattle.store.proofs.ViewLaws.{slot_in, view_fast_slot}
use Rattle.store.proofs.HeaderWords.{with_word}
use Rattle.store.proofs.StepLaws.{Step}
use Rattle.store.proofs.StoreLaws.{issued_ring_in}
use Rattle.store.proofs.LaneFields.{flagged, flagged_pop_fast, flagged_grant}
use Rattle.store.proofs.LaneView.{unreleased_seen, burst_seen, grant_seen, grant_holds, pop_fast_more}
use Rattle.refinement.proofs.SameFlags.{slot_by_lem}
use Rattle.store.proofs.BetweenTurns.{FrontLane, front_lane_lem}
use Rattle.receive.proofs.ReceiveLaws.{pop_open, granted_within}
use Rattle.refinement.proofs.TurnView.{TookAs}
use Rattle.refinement.proofs.WindowView.{Pops, window_took, window_first, step_fast_same, step_fast_moved}
use Rattle.lane.specs.declared.consumer.Taken.{Taken}

-- an item of the window is one less in it
pub pop_window_lem : (ring : Ring) (store : List ℕ) (l : Lane) (item : ℕ) (m : Lane) → pop_fast ring store l ≡ Some (record { item = item; lane = m }) → m.window + 1 ≡ l.window
unfolding pop_fast
pop_window_lem ring store l item m e = go (eqb l.window 0) refl e
  where
    go : (t : Bool) → eqb l.window 0 ≡ t → ◌≡◌ {A = Option Taken} (cond t None (Some (record { item = item_at ring store l.head; lane = window_pop l }))) (Some (record { item = item; lane = m })) → m.window + 1 ≡ l.window
    go true s f = absurd cc
    go false s f = omega (arith, eqb-false l.window 0 s, ap (λ (p : Option Taken). (popped_lane l p).window) f)

-- ---- the lane with an item less

module _ (t r : List ℕ) (o : Stores t r) (x : ℕ) (h : x < issued t) (g : (lane_at t x).registered ≡ 1) where
  abbrev ring : Ring
  ring = new_ring x (capacity t)

  abbrev l : Lane
  l = lane_at t x

  -- of a lane j that shows what lane l shows, with a window within the budget
  module _ (j : Lane) (order : InOrder (capacity t) j) (same_held : held_items ring r j ≡ held_items ring r l) (same_flags : flagged j ≡ flagged l)
      (same_unreleased : unreleased_seen j ≡ unreleased_seen l) (same_burst : burst_seen j ≡ burst_seen l) (within : j.window ≤ budget t)
      (item : ℕ) (m : Lane) (e : pop_fast ring r j ≡ Some (record { item = item; lane = m })) where
    -- and the turn is not over
    pops_shown : Pops t r x item (burst_seen l + 1) m × (burst_seen l < 63)
    pops_shown =
        let more = pop_fast_more (capacity t) ring r j order item m e in (
          record {
            takes = sym same_held ∙ pop_fast_takes_first ring r j (issued_ring_in t r o x h) order item m e;
            unreleased_more = more.unreleased_more ∙ ap (λ (n : ℕ). n + 1) same_unreleased;
            below_batch = rw (← same_unreleased) more.below_batch;
            burst_is = more.burst_more ∙ ap (λ (n : ℕ). n + 1) same_burst;
            same_flags = sym (ap (λ (p : Option Taken). flagged (popped_lane j p)) e) ∙ flagged_pop_fast ring r j ∙ same_flags;
            order = subst (λ (p : Option Taken). InOrder (capacity t) (popped_lane j p)) e (pop_fast_keeps (capacity t) o.power.most j order ring r);
            within = omega (arith, pop_window_lem ring r j item m e, within);
          },
          rw (← same_burst) more.below_turn,
        )

-- ---- the takes

-- an item is the one that the rules take; where there is none, nothing is said yet
abbrev pub TakesAs : List ℕ → Option Took × List ℕ → rules.Took → Type 0
TakesAs r (Some took, u) w = TookAs r (Some took, u) w
TakesAs r (None, u) w = 0 < 1

-- an item of the front lane's window is the rules' next
module _ (t r : List ℕ) (o : InOrderButHeld t r) (x : ℕ) (q : List ℕ) (e : queue_of t ≡ x ∷ q) where
  front : FrontLane t x q
  front = front_lane_lem t r o x q e

  burst_seen_lem : ((view t r).slot_of x).burst ≡ burst_seen (lane_at t x)
  unfolding slot_at
  burst_seen_lem = ap (λ (y : Slot). y.burst) (slot_in t r x front.is_issued)

  module _ (item : ℕ) (m : Lane) (k : Pops t r x item (burst_seen (lane_at t x) + 1) m) (below : burst_seen (lane_at t x) < 63)
      (u : List ℕ) (s : Step t u x (lane_at t x) (queue_of t) (with_word fast_slot x (head t))) (same : view u r ≡ view t r) where
    abbrev left : List ℕ
    left = held_items (new_ring x (capacity t)) r m

    rules_take : rules.take_one (view t r) ≡ ((key_of (view t r) x, item) ∷ [], rules.give_item (view t r) x q left false)
    unfolding view
    rules_take =
        take_one_front (view t r) x item q left e (window_first t r o x q e item _ m k u s same) (omega (arith, k.within))
        ∙ ap (λ (b : Bool). ((key_of (view t r) x, item) ∷ [], rules.give_item (view t r) x q left b)) (lt-leb 63 ((view t r).slot_of x).burst (omega (arith, burst_seen_lem, below)))

    pub window_taken : TookAs r (take_from_window u item m) (rules.take_one (view t r))
    window_taken =
        subst (TookAs r (take_from_window u item m)) (sym rules_take)
        (window_took t r o x q e item _ m k u s same false refl (ap (λ (n : ℕ). n + 1) (sym burst_seen_lem)) (λ z. omega (arith, burst_seen_lem, below)))

-- "first the open fast window at `fast_slot`"
first_of : (x : ℕ) (q : List ℕ) → take 1 q ≡ x ∷ [] → q ≡ x ∷ drop 1 q
first_of x [] e = let z : ◌≡◌ {A = ℕ} 0 1 = ap length e in absurd (omega arith)
first_of x (y ∷ q) e = let same : y ≡ x = cc in ap (λ (z : ℕ). z ∷ q) same

module _ (t r : List ℕ) (o : InOrderButHeld t r) where
  abbrev x : ℕ
  x = fast_slot t

  fast_taken : x < issued t → (lane_at t x).registered ≡ 1 → (item : ℕ) (m : Lane) → pop_fast (new_ring x (capacity t)) r (lane_at t x) ≡ Some (record { item = item; lane = m })
      → TookAs r (take_from_window t item m) (rules.take_one (view t r))
  fast_taken h g item m e =
      let some : 0 < (lane_at t x).window = omega (arith, pop_open (new_ring x (capacity t)) r (lane_at t x) (record { item = item; lane = m }) e) in
      let f = o.stores.windows x h g some in
      let k = pops_shown t r o.stores x h g (lane_at t x) (o.stores.lanes x h g) refl refl refl refl f.within item m e in
      window_taken t r o x (drop 1 (queue_of t)) (first_of x (queue_of t) f.in_front) item m k.0 k.1 t (step_fast_same t r o.stores x refl) refl

  pub take_fast_takes : TakesAs r (take_fast t r) (rules.take_one (view t r))
  unfolding take_fast fast_took take_from_window
  take_fast_takes =
      cond_holds (λ p. TakesAs r p (rules.take_one (view t r))) (ltb x (issued t)) _ (None, t)
      (λ a.
      cond_holds (λ p. TakesAs r p (rules.take_one (view t r))) (eqb (lane_at t x).registered 1) _ (None, t)
      (λ b. go (ltb-true x (issued t) a) (eqb-true (lane_at t x).registered 1 b) (pop_fast (new_ring x (capacity t)) r (lane_at t x)) refl) (λ b. omega arith))
      (λ a. omega arith)
    where
      go : x < issued t → (lane_at t x).registered ≡ 1 → (p : Option Taken) → pop_fast (new_ring x (capacity t)) r (lane_at t x) ≡ p → TakesAs r (fast_took t p) (rules.take_one (view t r))
      go h g (Some taken) e = fast_taken h g taken.item taken.lane e
      go h g None e = omega arith

-- "then the front lane's window"
module _ (t r : List ℕ) (o : InOrderButHeld t r) where
  abbrev y : ℕ
  y = front_slot t

  abbrev granted : Lane
  granted = grant_fast (capacity t) (budget t) (front_lane t)

  module _ (some : queue_count t ≡ 0 → ⊥) where
    queue_is : queue_of t ≡ y ∷ queue_of (pop_front t)
    queue_is = queue_front_lem t o.stores.shaped (omega (arith, some))

    h : FrontLane t y (queue_of (pop_front t))
    h = front_lane_lem t r o y (queue_of (pop_front t)) queue_is

    opened_taken : (item : ℕ) (m : Lane) → pop_fast (new_ring y (capacity t)) r granted ≡ Some (record { item = item; lane = m })
        → TookAs r (take_from_window (set_fast_slot t m.key.slot) item m) (rules.take_one (view t r))
    opened_taken item m e =
        let small = o.stores.power.most in
        let i = o.stores.lanes y h.is_issued h.registered in
        let f = flagged_grant (capacity t) (budget t) (front_lane t) in
        let seen = grant_seen (capacity t) (budget t) (front_lane t) in
        let k =
        pops_shown t r o.stores y h.is_issued h.registered granted (grant_fast_keeps (capacity t) small (front_lane t) i (budget t))
        (grant_holds (new_ring y (capacity t)) r (capacity t) (budget t) (front_lane t)) f seen.0 seen.1
        (granted_within (capacity t) (budget t) (front_lane t) small i) item m e in
        subst (λ (z : ℕ). TookAs r (take_from_window (set_fast_slot t z) item m) (rules.take_one (view t r))) (sym (slot_by_lem t y m k.0.same_flags))
        (window_taken t r o y (queue_of (pop_front t)) queue_is item m k.0 k.1 (set_fast_slot t y) (step_fast_moved t r o.stores y)
        (view_fast_slot t r o.stores.shaped y))

  pub take_window_takes : TakesAs r (take_front_window t r) (rules.take_one (view t r))
  unfolding take_front_window take_if_popped take_from_window
  take_window_takes =
      cond_holds (λ p. TakesAs r p (rules.take_one (view t r))) (eqb (queue_count t) 0) (None, t) _
      (λ a. omega arith) (λ a. go (eqb-false (queue_count t) 0 a) (pop_fast (new_ring y (capacity t)) r granted) refl)
    where
      go : (queue_count t ≡ 0 → ⊥) → (p : Option Taken) → pop_fast (new_ring y (capacity t)) r granted ≡ p → TakesAs r (take_if_popped t p) (rules.take_one (view t r))
      go some (Some taken) e = opened_taken some taken.item taken.lane e
      go some None e = omega arith
