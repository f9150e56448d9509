-- The front lane of a store in order; and the budget set, and lanes collected, leave one.
-- Assumes nothing.
use mathlib.Core.Path.{◌≡◌, refl, sym, ap, ◌∙◌, subst}
use mathlib.Core.Bool.{Bool, true, false}
use mathlib.Core.List.{List, ◌∷◌}
use Prim.Native.Nat.{ℕ, ◌≤◌, ◌<◌}
use native.Mathlib.Omega.{arith}
use borrow.Author.Tests.{eqb-true, eqb-false}
use Rattle.model.specs.Lists.{count}
use Rattle.model.specs.State.{Slot, registered_lanes, living_senders}
use Rattle.model.specs.Order.{Ordered}
use Rattle.model.specs.Ready.{groups_round}
use Rattle.demands.proofs.OrderKept.{first_own, front_registered, front_alone, budget_ordered, groups_round_exist, collect_each_ordered, collect_first_ordered}
use Rattle.lane.specs.Table.{lane_at}
use Rattle.lane.proofs.TableLaws.{frames}
use Rattle.queues.specs.Header.{issued, budget, set_budget}
use Rattle.queues.specs.Queue.{queue_of}
use Rattle.ready.specs.Ready.{collect_ready}
use Rattle.queues.proofs.QueueLaws.{header_in}
use Rattle.store.specs.View.{flag, slot_at, view}
use Rattle.store.specs.Order.{Stores, InOrderButHeld}
use Rattle.store.proofs.ViewLaws.{slot_in, view_budget}
use Rattle.store.proofs.HeaderStore.{stores_word}
use Rattle.store.proofs.CollectedView.{along, collected}
use Rattle.store.proofs.CollectedStore.{stores_collected}

-- ---- the front lane

pub record FrontLane (t : List ℕ) (x : ℕ) (q : List ℕ) : Type 0 where
  pub is_issued : x < issued t
  pub registered : (lane_at t x).registered ≡ 1
  pub queued : (lane_at t x).queued ≡ 1
  pub unpaused : (lane_at t x).paused ≡ 0
  -- it stands in the queue only there
  pub alone : count x q ≡ 0

pub front_lane_lem : (t r : List ℕ) → InOrderButHeld t r → (x : ℕ) (q : List ℕ) → queue_of t ≡ x ∷ q → FrontLane t x q
unfolding view slot_at
front_lane_lem t r o x q e =
    let named : 1 ≤ count x (queue_of t) = omega (arith, ap (count x) e, first_own x q) in
    let h : x < issued t = o.stores.named.issued_only x named in
    let sees = slot_in t r x h in
    let reg : (lane_at t x).registered ≡ 1 = eqb-true (lane_at t x).registered 1 (ap (λ (m : Slot). m.registered) (sym sees) ∙ front_registered (view t r) x q e o.ordered) in
    let paus : flag (lane_at t x).paused ≡ false = ap (λ (m : Slot). m.paused) (sym sees) ∙ (o.ordered.each_slot x).queued_unpaused named in
    record {
      is_issued = h;
      registered = reg;
      queued = omega (arith, o.stores.named.flagged x h reg, o.stores.named.once x, named);
      unpaused = omega (arith, eqb-false (lane_at t x).paused 1 paus, (o.stores.flags x h).paused_flag);
      alone = front_alone (view t r) x q e o.ordered;
    }

-- ---- the budget alone

-- with every window within it
pub stores_budget : (t r : List ℕ) → Stores t r → (b : ℕ)
    → ((x : ℕ) → x < issued t → (lane_at t x).registered ≡ 1 → 0 < (lane_at t x).window → (lane_at t x).window ≤ b) → Stores (set_budget t b) r
unfolding registered_lanes living_senders
stores_budget t r o b k =
    let now = view_budget t r o.shaped b in
    stores_word t r budget b refl refl o (simp frames o.alive_flag) (simp (frames, header_in t o.shaped) k) (ap registered_lanes now) (ap living_senders now)

-- a budget of 64, which no window passes
pub full_budget_in_order : (t r : List ℕ) → InOrderButHeld t r → InOrderButHeld (set_budget t 64) r
unfolding view
full_budget_in_order t r o =
    record {
      stores = stores_budget t r o.stores 64 (λ x h g w. omega (arith, (o.stores.windows x h g w).within, o.ordered.budget_most));
      ordered = subst Ordered (sym (view_budget t r o.stores.shaped 64)) (budget_ordered 64 (view t r) (omega arith) o.ordered);
    }

-- ---- collecting

-- one group or all of them
pub collected_in_order : (t r : List ℕ) → InOrderButHeld t r → (all : Bool) → InOrderButHeld (collect_ready all t) r
collected_in_order t r o all =
    record {
      stores = stores_collected t r o.stores all;
      ordered = subst Ordered (sym (collected t r o.stores all).0) (ordered_along all);
    }
  where
    ordered_along : (all : Bool) → Ordered (along all (groups_round (view t r)) (view t r))
    ordered_along true = collect_each_ordered (groups_round (view t r)) (view t r) (groups_round_exist (view t r)) o.ordered
    ordered_along false = collect_first_ordered (groups_round (view t r)) (view t r) (groups_round_exist (view t r)) o.ordered
