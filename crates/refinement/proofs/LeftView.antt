-- The front lane, found empty, leaves the queue: what the rules see of it, and that a store in order is left.
-- Assumes nothing.
use mathlib.Core.Path.{◌≡◌, refl, sym, ap, ◌∙◌}
use mathlib.Core.Bool.{Bool, true, false, cond}
use mathlib.Core.List.{List, [], ◌∷◌}
use Prim.Native.Nat.{ℕ, zero, suc, ◌<◌}
use native.Mathlib.Nat.{pos_of_ne-zero}
use native.Mathlib.Omega.{arith}
use borrow.Author.Tests.{eq-eqb, ne_eqb, eqb-true, eqb-false}
use lib.Dec.{eqb}
use lib.ListN.{length}
use Rattle.model.specs.State.{State}
use Rattle.model.specs.Changes.{with_queue, with_budget, put, settled_empty}
use Rattle.model.specs.Turn as rules
use Rattle.demands.proofs.OrderKept as kept
use Rattle.lane.specs.declared.lane.EmptyLane.{EmptyLane}
use Rattle.lane.specs.Table.{head, put_lane}
use Rattle.lane.proofs.TableLaws.{frames}
use Rattle.queues.specs.Header.{slots, queue_count, free_count, budget, fast_slot, set_budget}
use Rattle.queues.specs.Queue.{queue_of, pop_front}
use Rattle.queues.proofs.QueueLaws.{queue_frames, length_queue, queue_put_lane, shaped_put_lane}
use Rattle.store.specs.View.{view}
use Rattle.store.specs.Order.{InOrderButHeld}
use Rattle.turns.specs.Turn.{settle_empty_front, meet_budget}
use Rattle.store.proofs.ViewLaws.{view_popped_front, view_budget}
use Rattle.store.proofs.StepLaws.{Step, step_start, step_put_lane, step_popped_front}
use Rattle.store.proofs.StoreLaws.{room_in_free, windows_front}
use Rattle.store.proofs.BetweenTurns.{FrontLane, front_lane_lem, full_budget_in_order}
use Rattle.refinement.proofs.FoundEmptyLaws.{found_slot, found_narrow, found_view, settled_view, settled_in_order}
pub use Rattle.refinement.proofs.EmptyLaneLaws.{slot_path, Empties, empties_by_poll, empties_by_refill}

-- ---- it leaves the queue

module _ (t r : List ℕ) (o : InOrderButHeld t r) (x : ℕ) (q : List ℕ) (e : queue_of t ≡ x ∷ q) (found : EmptyLane) (k : Empties t r x found) where
  -- the table before the lane may retire
  abbrev settled : List ℕ
  settled = pop_front (put_lane t found.lane)

  front : FrontLane t x q
  front = front_lane_lem t r o x q e

  view_settled : view settled r ≡ with_queue q (put x (settled_empty ((view t r).slot_of x)) (view t r))
  unfolding view
  view_settled =
      view_popped_front (put_lane t found.lane) r (shaped_put_lane t o.stores.shaped found.lane) x q (queue_put_lane t found.lane ∙ e)
      ∙ ap (with_queue q) (found_view t r o x front.is_issued front.registered found k)

  step_settled : Step t settled x found.lane q (head t)
  step_settled =
      step_popped_front
      (step_put_lane (step_start t r o.stores x) found.lane (found_slot t r o x front.is_issued front.registered found k) (found_narrow t r o x front.is_issued front.registered found k) front.is_issued) x q e

  room : free_count settled < slots settled
  room = simp (queue_frames, frames) (room_in_free t r o.stores x front.is_issued front.registered o.ordered)

  -- the rules' step
  pub left_view : view (settle_empty_front t found) r ≡ rules.settle_empty x q (view t r)
  unfolding settle_empty_front view
  left_view =
      settled_view t r o x front.is_issued front.registered found k settled q step_settled room view_settled front.alone
      (kept.front_rest (view t r) x q e) (windows_front t r o.stores x q e q (fast_slot t) (budget t))

  pub left_in_order : InOrderButHeld (settle_empty_front t found) r
  unfolding settle_empty_front view
  left_in_order =
      settled_in_order t r o x front.is_issued front.registered found k settled q step_settled room view_settled front.alone
      (kept.front_rest (view t r) x q e) (windows_front t r o.stores x q e q (fast_slot t) (budget t))

  -- the queue without its front
  pub left_queue : queue_of (settle_empty_front t found) ≡ q
  unfolding view
  left_queue = ap (λ (s : State). s.queue) left_view ∙ kept.settle_empty_queue x q (view t r)

-- ---- before the next turn a budget of 0 becomes 64

pub refill_some : (n : ℕ) → 0 < n → rules.refill n ≡ n
unfolding rules.refill
refill_some zero h = absurd (omega arith)
refill_some (suc n) h = refl

module _ (t r : List ℕ) (o : InOrderButHeld t r) where
  met : (b : Bool) → eqb (budget t) 0 ≡ b → view (cond b (set_budget t 64) t) r ≡ with_budget (rules.refill (budget t)) (view t r)
  unfolding view rules.refill
  met true e = view_budget t r o.stores.shaped 64 ∙ ap (λ (n : ℕ). with_budget (rules.refill n) (view t r)) (sym (eqb-true (budget t) 0 e))
  met false e = ap (λ (n : ℕ). with_budget n (view t r)) (sym (refill_some (budget t) (pos_of_ne-zero (eqb-false (budget t) 0 e))))

  pub met_view : (q : List ℕ) → queue_of t ≡ q → view (meet_budget t) r ≡ rules.before_next_turn q (view t r)
  unfolding view meet_budget rules.before_next_turn
  met_view [] e = rw (eq-eqb (queue_count t) 0 (sym (length_queue t) ∙ ap length e))
  met_view (y ∷ q) e = rw (ne_eqb (queue_count t) 0 (λ z. omega (arith, length_queue t, ap length e))) (met (eqb (budget t) 0) refl)

  pub met_in_order : InOrderButHeld (meet_budget t) r
  unfolding meet_budget
  met_in_order = go (eqb (queue_count t) 0) (eqb (budget t) 0)
    where
      go : (a b : Bool) → InOrderButHeld (cond a t (cond b (set_budget t 64) t)) r
      go true b = o
      go false true = full_budget_in_order t r o
      go false false = o
