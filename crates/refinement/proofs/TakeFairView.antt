-- The fair take is the rules' fair take, and leaves a store in order.
-- Assumes nothing.
use Rattle.std.specs.Prelude.{Option, Some, None}
use mathlib.Core.Path.{◌≡◌, refl, sym, ap, ◌∙◌, subst}
use mathlib.Core.Bool.{true}
use mathlib.Core.List.{List, [], ◌∷◌}
use Prim.Native.Nat.{ℕ, ◌≤◌, ◌<◌}
use native.Mathlib.Omega.{arith}
use borrow.Author.Tests.{eqb-true}
use lib.Dec.{eqb}
use lib.ListN.{length}
use Rattle.model.specs.State.{State, key_of}
use Rattle.model.specs.Changes.{with_budget}
use Rattle.model.specs.Ready as marks
use Rattle.model.specs.Turn as rules
use Rattle.demands.proofs.Counting.{no}
use Rattle.lane.specs.declared.lane.Lane.{Lane}
use Rattle.yring.specs.Ring.{new_ring}
use Rattle.lane.specs.Lane.{held_items, fair_window, pop_lone}
use Rattle.lane.specs.Order.{Counts, InOrder, popped_lane}
use Rattle.lane.specs.Table.{lane_at}
use Rattle.lane.proofs.OrderLaws.{cond_holds, pop_fair_keeps}
use Rattle.lane.proofs.HeldLaws.{pop_fair_takes_first}
use Rattle.lane.proofs.TableLaws.{frames}
use Rattle.queues.specs.Header.{issued, queue_count, budget, capacity, set_budget, set_fast_slot}
use Rattle.queues.specs.Queue.{queue_of, front_slot, pop_front}
use Rattle.ready.specs.Ready.{collect_ready}
use Rattle.queues.proofs.QueueLaws.{header_in, length_queue, queue_front_lem}
use Rattle.store.specs.View.{view}
use Rattle.store.specs.Order.{Stores, InOrderButHeld}
use Rattle.turns.specs.Turn.{front_lane, turns}
use Rattle.receive.specs.Receive.{take_from_window, take_if_popped, take_lone, take_fair}
use Rattle.store.proofs.ViewLaws.{view_budget, view_fast_slot}
use Rattle.store.proofs.StoreLaws.{issued_ring_in}
use Rattle.store.proofs.CollectedView.{view_collect_all}
use Rattle.store.proofs.LaneFields.{flagged, flagged_pop_fair}
use Rattle.store.proofs.LaneView.{pop_fair_more}
use Rattle.refinement.proofs.SameFlags.{slot_by_lem}
use Rattle.store.proofs.BetweenTurns.{FrontLane, front_lane_lem, full_budget_in_order, collected_in_order}
use Rattle.receive.proofs.ReceiveLaws.{take_lone_unmoved}
use Rattle.refinement.proofs.TurnView.{TookAs, turns_from, turns_from_front, turns_from_is, turns_alike, no_length}
use Rattle.refinement.proofs.WindowView.{Pops, window_took, window_first, step_fast_moved}
use Rattle.refinement.proofs.WindowTakes.{TakesAs}
use Rattle.refinement.proofs.TakeOneView.{else_took}
use Rattle.lane.specs.declared.consumer.Taken.{Taken}

-- ---- the lone lane's item

-- with a budget of 64, above every window
pops_fair : (t r : List ℕ) → Stores t r → (x : ℕ) → x < issued t → (lane_at t x).registered ≡ 1 → budget t ≡ 64 → (item : ℕ) (m : Lane)
    → pop_lone (new_ring x (capacity t)) r (budget t) (lane_at t x) ≡ Some (record { item = item; lane = m }) → Pops t r x item 0 m
pops_fair t r o x h g b item m e =
    let ring = new_ring x (capacity t) in
    let i = o.lanes x h g in
    let more = pop_fair_more ring o.power.most r (budget t) (lane_at t x) i item m e in
    let w : Lane = fair_window (capacity t) (budget t) (lane_at t x) in
    let order : InOrder (capacity t) m = subst (λ (p : Option Taken). InOrder (capacity t) (popped_lane w p)) e (pop_fair_keeps ring o.power.most r (lane_at t x) i (budget t)) in
    record {
      takes = pop_fair_takes_first ring r (lane_at t x) (issued_ring_in t r o x h) i (budget t) item m e;
      unreleased_more = more.0;
      below_batch = more.2;
      burst_is = more.1;
      same_flags = sym (ap (λ (p : Option Taken). flagged (popped_lane w p)) e) ∙ flagged_pop_fair ring r (budget t) (lane_at t x);
      order = order;
      within = omega (arith, most order.counts, b);
    }
  where
    most : {B d a c u n w : ℕ} → Counts B d a c u n w → w ≤ 63
    most k = omega arith

module _ (t r : List ℕ) (o : InOrderButHeld t r) (b : budget t ≡ 64) where
  abbrev x : ℕ
  x = front_slot t

  module _ (one : queue_count t ≡ 1) where
    queue_is : queue_of t ≡ x ∷ []
    queue_is =
        let e = queue_front_lem t o.stores.shaped (omega (arith, one)) in
        e ∙ ap (λ (q : List ℕ). x ∷ q) (no_length (queue_of (pop_front t)) (omega (arith, length_queue t, one, ap length e)))

    front : FrontLane t x []
    front = front_lane_lem t r o x [] queue_is

    lone_taken : (item : ℕ) (m : Lane) → pop_lone (new_ring x (capacity t)) r (budget t) (front_lane t) ≡ Some (record { item = item; lane = m })
        → TookAs r (take_from_window (set_fast_slot t m.key.slot) item m) (turns_from true (view t r).queue (view t r))
    unfolding view
    lone_taken item m e =
        let k = pops_fair t r o.stores x front.is_issued front.registered b item m e in
        let s = step_fast_moved t r o.stores x in
        let same : view (set_fast_slot t x) r ≡ view t r = view_fast_slot t r o.stores.shaped x in
        let left : List ℕ = held_items (new_ring x (capacity t)) r m in
        let given : turns_from true (queue_of t) (view t r) ≡ ((key_of (view t r) x, item) ∷ [], rules.give_item (view t r) x [] left true) =
        ap (λ (q : List ℕ). turns_from true q (view t r)) queue_is
        ∙ turns_from_front true (view t r) x item [] left queue_is (window_first t r o x [] queue_is item 0 m k (set_fast_slot t x) s same) in
        subst (λ (z : ℕ). TookAs r (take_from_window (set_fast_slot t z) item m) (turns_from true (queue_of t) (view t r))) (sym (slot_by_lem t x m k.same_flags))
        (subst (TookAs r (take_from_window (set_fast_slot t x) item m)) (sym given)
        (window_took t r o x [] queue_is item 0 m k (set_fast_slot t x) s same true refl refl (λ z. absurd (no refl z))))

  -- "A lone lane takes `pop_fair`."
  take_lone_takes : TakesAs r (take_lone t r) (turns_from true (view t r).queue (view t r))
  unfolding take_lone take_if_popped take_from_window
  take_lone_takes =
      cond_holds (λ p. TakesAs r p (turns_from true (view t r).queue (view t r))) (eqb (queue_count t) 1) _ (None, t)
      (λ a. go (eqb-true (queue_count t) 1 a) (pop_lone (new_ring x (capacity t)) r (budget t) (front_lane t)) refl) (λ a. omega arith)
    where
      go : queue_count t ≡ 1 → (p : Option Taken) → pop_lone (new_ring x (capacity t)) r (budget t) (front_lane t) ≡ p → TakesAs r (take_if_popped t p) (turns_from true (view t r).queue (view t r))
      go one (Some taken) e = lone_taken one taken.item taken.lane e
      go one None e = omega arith

-- ---- the fair take

module _ (t r : List ℕ) (o : InOrderButHeld t r) where
  -- "collect all groups if any is ready, budget 64"
  abbrev u : List ℕ
  u = set_budget (collect_ready true t) 64

  all : InOrderButHeld (collect_ready true t) r
  all = collected_in_order t r o true

  ready_view : view u r ≡ with_budget 64 (marks.collect_ready (view t r))
  ready_view = view_budget (collect_ready true t) r all.stores.shaped 64 ∙ ap (with_budget 64) (view_collect_all t r o.stores)

  ready_in_order : InOrderButHeld u r
  ready_in_order = full_budget_in_order (collect_ready true t) r all

  ready_budget : budget u ≡ 64
  ready_budget = simp (frames, header_in (collect_ready true t) all.stores.shaped)

  take_fair_is : turns_from true (view u r).queue (view u r) ≡ rules.take_fair (view t r)
  unfolding rules.take_fair
  take_fair_is =
      turns_from_is true (view u r) ∙ ap (λ (s : State). let d = rules.run_down s in rules.give_front true d d.queue) ready_view

  -- "one item of the front lane, which goes to the back"
  pub take_fair_alike : TookAs r (take_fair t r) (rules.take_fair (view t r))
  unfolding take_fair
  take_fair_alike =
      else_took u r (rules.take_fair (view t r)) (take_lone u r) (λ v. turns v r true)
      (subst (TakesAs r (take_lone u r)) take_fair_is (take_lone_takes u r ready_in_order ready_budget)) (take_lone_unmoved u r)
      (subst (TookAs r (turns u r true)) (sym (turns_from_is true (view u r)) ∙ take_fair_is) (turns_alike u r true ready_in_order))
