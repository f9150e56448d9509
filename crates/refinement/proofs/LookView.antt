-- The search for the lane whose turn it is does what the rules say before an item is taken, and leaves a store in order.
-- Assumes nothing.
use Rattle.std.specs.Prelude.{Option, Some, None, Result, Ok, Err}
use mathlib.Core.Path.{◌≡◌, refl, sym, ap, ◌∙◌, subst}
use mathlib.Core.Bool.{true}
use mathlib.Core.List.{List, [], ◌∷◌}
use Prim.Native.Nat.{ℕ, ◌<◌}
use native.Mathlib.Omega.{arith}
use borrow.Author.Tests.{ne_eqb}
use lib.ListN.{length}
use Rattle.model.specs.Lists.{if, non_empty}
use Rattle.model.specs.State.{Slot, State}
use Rattle.model.specs.Ready as marks
use Rattle.model.specs.Turn as rules
use Rattle.lane.specs.declared.lane.Lane.{Lane}
use Rattle.lane.specs.declared.lane.EmptyLane.{EmptyLane}
use Rattle.yring.specs.Ring.{new_ring, item_at}
use Rattle.lane.specs.Order.{Counts, Filled}
use Rattle.lane.specs.Lane.{advance, held_items, refill}
use Rattle.lane.specs.Table.{lane_at}
use Rattle.lane.proofs.OrderLaws.{refill_fills}
use Rattle.lane.proofs.HeldLaws.{first_held, reload_holds, refill_is}
use Rattle.queues.specs.Header.{issued, queue_count, capacity}
use Rattle.queues.specs.Queue.{queue_of, front_slot}
use Rattle.ready.specs.Ready.{collect_ready}
use Rattle.queues.proofs.QueueLaws.{length_queue, front_is}
use Rattle.store.specs.View.{slot_at, view}
use Rattle.store.specs.Order.{Stores, InOrderButHeld}
use Rattle.turns.specs.Turn.{settle_empty_front, meet_budget}
use Rattle.turns.specs.Due.{collect_if_due}
use Rattle.receive_batch.specs.Batch.{look_by, look_front, after_look, run_down_within, run_down, else_front, refresh_active, Reached}
use Rattle.store.proofs.ViewLaws.{slot_in}
use Rattle.store.proofs.StoreLaws.{issued_ring_in}
use Rattle.store.proofs.CollectedView.{view_collect_all}
use Rattle.store.proofs.BetweenTurns.{FrontLane, front_lane_lem, collected_in_order}
use Rattle.turns.proofs.TurnLaws.{queue_is}
use Rattle.turns.proofs.DueLaws.{turning_of}
use Rattle.refinement.proofs.EmptyLaneLaws.{Empties, empties_by_refill}
use Rattle.refinement.proofs.TurnView.{none_held, left_ordered, view_left, left_rest}
use Rattle.refinement.proofs.TakeOneView.{due, due_in_order, due_view}
use Rattle.receive_batch.proofs.LookLaws.{run_down_searched}
use Rattle.std.specs.declared.ops.ControlFlow.{ControlFlow}

-- the rules see the state that the search leaves, and the words are in order
pub record ReachedAs (r : List ℕ) (o : Option Lane × List ℕ) (s : State) : Type 0 where
  pub alike : view o.1 r ≡ s
  pub in_order : InOrderButHeld o.1 r

-- ---- a lane that is ready

module _ (t r : List ℕ) (o : Stores t r) (x : ℕ) (h : x < issued t) (g : (lane_at t x).registered ≡ 1) (l : Lane) (e : refill (lane_at t x) ≡ Ok l) where
  pub ready_filled : Filled (capacity t) l
  ready_filled = refill_fills (capacity t) o.power.most (lane_at t x) (o.lanes x h g) l e

  pub ready_holds : held_items (new_ring x (capacity t)) r l ≡ held_items (new_ring x (capacity t)) r (lane_at t x)
  ready_holds = ap (held_items (new_ring x (capacity t)) r) (sym (refill_is (lane_at t x) l e)) ∙ reload_holds (new_ring x (capacity t)) r (lane_at t x)

  -- its first item
  ready_first : ((view t r).slot_of x).ring ≡ item_at (new_ring x (capacity t)) r l.head ∷ held_items (new_ring x (capacity t)) r (advance 1 l)
  unfolding slot_at
  ready_first =
      ap (λ (y : Slot). y.ring) (slot_in t r x h) ∙ sym ready_holds
      ∙ first_held (new_ring x (capacity t)) r l (issued_ring_in t r o x h) ready_filled.order (known ready_filled.order.counts ready_filled.some)
    where
      known : {B d a c u b w : ℕ} → Counts B d a c u b w → 0 < c → 0 < a
      known k s = omega arith

-- ---- look after look

module _ (t r : List ℕ) (o : InOrderButHeld t r) (x : ℕ) (q : List ℕ) (e : queue_of t ≡ x ∷ q) where
  front : FrontLane t x q
  front = front_lane_lem t r o x q e

  front_looked : look_front t ≡ look_by t (refill (lane_at t x))
  unfolding look_front
  front_looked =
      rw (ne_eqb (queue_count t) 0 (λ z. omega (arith, length_queue t, ap length e))) (ap (λ (y : ℕ). look_by t (refill (lane_at t y))) (front_is t o.stores.shaped x q e))

  stays : (l : Lane) → refill (lane_at t x) ≡ Ok l → rules.run_down_from (x ∷ q) (view t r) ≡ view t r
  unfolding rules.run_down_from
  stays l f =
      ap (λ (v : List ℕ). if (non_empty v) (view t r) (rules.run_down_from q (rules.before_next_turn q (rules.settle_empty x q (view t r)))))
      (ready_first t r o.stores x front.is_issued front.registered l f)

  goes : (found : EmptyLane) (k : Empties t r x found) → rules.run_down_from (x ∷ q) (view t r) ≡ rules.run_down_from q (view (meet_budget (settle_empty_front t found)) r)
  unfolding rules.run_down_from
  goes found k =
      ap (λ (v : List ℕ). if (non_empty v) (view t r) (rules.run_down_from q (rules.before_next_turn q (rules.settle_empty x q (view t r))))) (none_held t r o true x q e found k)
      ∙ ap (rules.run_down_from q) (sym (view_left t r o true x q e found k))

run_down_within_alike : (q t r : List ℕ) → InOrderButHeld t r → queue_of t ≡ q → ReachedAs r (run_down_within (length q) t) (rules.run_down_from q (view t r))
unfolding run_down_within after_look look_by rules.run_down_from
run_down_within_alike [] t r o e = record { alike = refl; in_order = o }
run_down_within_alike (x ∷ q) t r o e =
    subst (λ (u : ControlFlow (Option Lane) (Unit {0}) × List ℕ). ReachedAs r (after_look u (run_down_within (length q) u.1)) (rules.run_down_from (x ∷ q) (view t r))) (sym (front_looked t r o x q e))
    (go (λ u p f. run_down_within_alike q u r p f) (refill (lane_at t x)) refl)
  where
    h : FrontLane t x q
    h = front_lane_lem t r o x q e

    go : ((u : List ℕ) → InOrderButHeld u r → queue_of u ≡ q → ReachedAs r (run_down_within (length q) u) (rules.run_down_from q (view u r)))
        → (p : Result Lane EmptyLane) → refill (lane_at t x) ≡ p → ReachedAs r (after_look (look_by t p) (run_down_within (length q) (look_by t p).1)) (rules.run_down_from (x ∷ q) (view t r))
    go ih (Ok l) f = record { alike = sym (stays t r o x q e l f); in_order = o }
    go ih (Err found) f =
        let k = empties_by_refill t r o.stores x h.is_issued h.registered found f in
        subst (ReachedAs r (run_down_within (length q) (meet_budget (settle_empty_front t found)))) (sym (goes t r o x q e found k))
        (ih (meet_budget (settle_empty_front t found)) (left_ordered t r o true x q e found k) (left_rest t r o true x q e found k))

pub run_down_alike : (t r : List ℕ) → InOrderButHeld t r → ReachedAs r (run_down t) (rules.run_down (view t r))
unfolding run_down rules.run_down view
run_down_alike t r o = subst (λ (n : ℕ). ReachedAs r (run_down_within n t) (rules.run_down_from (queue_of t) (view t r))) (length_queue t) (run_down_within_alike (queue_of t) t r o refl)

-- ---- with the collections

no_items : (q : List ℕ) → length q ≡ 0 → q ≡ []
no_items [] z = refl
no_items (x ∷ q) z = absurd (omega arith)

-- a search that found no lane has left an empty queue, and one that found a lane has it in front
pub none_queued : (u : List ℕ) → Reached (None, u) → queue_of u ≡ []
none_queued u k = no_items (queue_of u) (length_queue u ∙ k.none_queued)

module _ (t r : List ℕ) (o : InOrderButHeld t r) where
  pub refresh_alike : ReachedAs r (refresh_active t) (rules.polled (view t r))
  unfolding refresh_active else_front rules.polled rules.collect_if_none_queued view
  refresh_alike =
      let u = collect_if_due t in
      let i = due_in_order t r o in
      go (run_down u) (subst (λ (s : State). ReachedAs r (run_down u) (rules.run_down s)) (due_view t r o) (run_down_alike u r i)) (run_down_searched u (turning_of u r i)).reached
    where
      go : (w : Option Lane × List ℕ) → ReachedAs r w (rules.run_down (due (view t r))) → Reached w
          → ReachedAs r (else_front w (λ u. run_down (collect_ready true u)))
          (let s = rules.run_down (due (view t r)) in rules.collect_if_none_queued s.queue s)
      go (Some l, u) a k =
          let queue_seen : (rules.run_down (due (view t r))).queue ≡ front_slot u ∷ _ = sym (ap (λ (s : State). s.queue) a.alike) ∙ queue_is u k.turning k.some in
          subst (ReachedAs r (Some l, u)) (ap (λ (q : List ℕ). rules.collect_if_none_queued q (rules.run_down (due (view t r)))) (sym queue_seen)) a
      go (None, u) a k =
          let none : (rules.run_down (due (view t r))).queue ≡ [] = sym (ap (λ (s : State). s.queue) a.alike) ∙ none_queued u k in
          let seen : view (collect_ready true u) r ≡ marks.collect_ready (rules.run_down (due (view t r))) = view_collect_all u r a.in_order.stores ∙ ap marks.collect_ready a.alike in
          subst (ReachedAs r (run_down (collect_ready true u)))
          (ap rules.run_down seen ∙ sym (ap (λ (q : List ℕ). rules.collect_if_none_queued q (rules.run_down (due (view t r)))) none))
          (run_down_alike (collect_ready true u) r (collected_in_order u r a.in_order true))
