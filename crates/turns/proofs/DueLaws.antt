-- A store in order is ready for turns, and a look for ready lanes that is due leaves it so.
-- Assumes nothing.
use mathlib.Core.Path.{◌≡◌, sym, ◌∙◌}
use mathlib.Core.Bool.{false}
use mathlib.Core.List.{List}
use Prim.Native.Nat.{ℕ, ◌<◌}
use native.Mathlib.Omega.{arith}
use borrow.Author.Tests.{eqb-true}
use lib.Dec.{eqb}
use Rattle.model.specs.State.{registered_lanes}
use Rattle.lane.specs.Table.{lane_at}
use Rattle.lane.proofs.OrderLaws.{cond_holds}
use Rattle.lane.proofs.TableLaws.{frames}
use Rattle.queues.specs.Header.{issued, queue_count, budget, set_budget}
use Rattle.ready.specs.Ready.{collect_ready}
use Rattle.store.specs.View.{flag, slot_at, view}
use Rattle.store.specs.Order.{InOrderButHeld}
use Rattle.store.proofs.ViewLaws.{slot_in}
use Rattle.store.proofs.CountLaws.{passing_same}
use Rattle.store.proofs.StoreLaws.{free_slot}
use Rattle.turns.specs.Turn.{registered_in, Turning, Ringed}
use Rattle.turns.specs.Due.{collect_if_due}
use Rattle.turns.proofs.TurnLaws.{turning_budget}
use Rattle.turns.proofs.FrontLaws.{Keeps, keeps_self, keeps_then}
use Rattle.turns.proofs.CollectKeeps.{collect_keeps}

-- ---- a store in order is ready for turns

module _ (t r : List ℕ) (o : InOrderButHeld t r) where
  seen_registered : (x : ℕ) → x < issued t → ((view t r).slot_of x).registered ≡ flag (lane_at t x).registered
  unfolding slot_at
  seen_registered x h = rw (slot_in t r x h)

  pub turning_of : Turning t
  unfolding view registered_in registered_lanes
  turning_of =
      record {
        shaped = o.stores.shaped;
        power = o.stores.power;
        names = o.stores.named;
        linked = o.stores.linked;
        lanes = o.stores.lanes;
        queued_registered = λ x n.
            eqb-true _ 1 (sym (seen_registered x (o.stores.named.issued_only x n)) ∙ (o.ordered.each_slot x).queued_registered n);
        free_once = λ x. (o.ordered.each_slot x).free_once;
        free_issued = λ x n. (free_slot t r o x n).is_issued;
        free_unregistered = λ x n e. (free_slot t r o x n).unregistered e;
        counted =
            o.stores.lanes_counted
            ∙ passing_same (λ x. ((view t r).slot_of x).registered) (λ x. flag (lane_at t x).registered) 0 (issued t) (λ x a b. seen_registered x (omega arith));
      }

  pub ringed_of : Ringed t r
  ringed_of = o.stores.rings_room

pub due_keeps : (t : List ℕ) → Turning t → Keeps t (collect_if_due t)
unfolding collect_if_due
due_keeps t k =
    cond_holds (Keeps t) (eqb (budget t) 0) _ t
    (λ e. cond_holds (Keeps t) (eqb (queue_count t) 0) t _ (λ f. keeps_self t k) (λ f. keeps_then (collect_keeps false t k) (budget_keeps (collect_ready false t) (collect_keeps false t k).turning 64)))
    (λ e. keeps_self t k)
  where
    budget_keeps : (u : List ℕ) → Turning u → (v : ℕ) → Keeps u (set_budget u v)
    budget_keeps u k v = record { turning = turning_budget u k v; long = simp frames; same_slots = simp frames; same_capacity = simp frames }
