-- Release consumed does what the rules say, and leaves a store in order: slot by slot, then all of them.
-- Assumes nothing.
use mathlib.Core.Path.{◌≡◌, refl, sym, ap, ◌∙◌, subst}
use mathlib.Core.Logic.{◌≢◌}
use mathlib.Core.Bool.{Bool, true, false}
use mathlib.Core.List.{List}
use Prim.Native.Nat.{ℕ, zero, suc, ◌+◌, ◌≤◌, ◌<◌}
use native.Mathlib.Omega.{arith}
use borrow.Author.Tests.{ne_eqb, ltb-false, ltb-true}
use lib.Dec.{ltb}
use Rattle.model.specs.declared.Answer.TheVariants.{Done}
use Rattle.model.specs.State.{Slot, State, vacant}
use Rattle.model.specs.Changes.{with_slots, put, credited}
use Rattle.model.specs.Outcome.{says}
use Rattle.model.specs.Receive as receives
use Rattle.model.specs.Control as rules
use Rattle.demands.proofs.Counting.{equal, other, same?}
use Rattle.demands.proofs.Simulation.{state_path}
use Rattle.lane.specs.declared.lane.Lane.{Lane}
use Rattle.lane.specs.Lane.{release_pending}
use Rattle.lane.specs.Table.{head, NarrowLane, lane_at, put_lane}
use Rattle.lane.proofs.OrderLaws.{order_narrow, release_pending_keeps}
use Rattle.queues.specs.Header.{issued, capacity, budget}
use Rattle.queues.specs.Queue.{queue_of}
use Rattle.store.specs.View.{flag, slot_at, view}
use Rattle.store.specs.Order.{Stores, StoreInOrder}
use Rattle.store.specs.Refusal.{receiver_verdict}
use Rattle.all_lanes.specs.AllLanes.{for_slots, release_slot, release_all, release_consumed}
use Rattle.store.proofs.ViewLaws.{slot_in, slot_out, view_put_counts, put_same, put_own}
use Rattle.store.proofs.RefusalLaws.{seen, receiver_verdict_lem, refused_alike, unless_refused_case}
use Rattle.store.proofs.StepLaws.{step_start, step_put_lane}
use Rattle.store.proofs.StoreLaws.{stores_after_lem, windows_kept}
use Rattle.store.proofs.CreditLaws.{GivesBack, gives_back, given_back, nothing_back}
use Rattle.all_lanes.proofs.SlotLoops.{release_slot_is, slot_released, head_release_slot}

-- ---- one slot

module _ (t r : List ℕ) (o : Stores t r) (x : ℕ) (h : x < issued t) where
  abbrev old : Lane
  old = lane_at t x

  abbrev new : Lane
  new = (release_pending old).lane

  abbrev slot : Slot
  slot = (view t r).slot_of x

  back : GivesBack old new
  back = gives_back old

  sees_flag : slot.registered ≡ flag old.registered
  unfolding slot_at
  sees_flag = ap (λ (m : Slot). m.registered) (slot_in t r x h)

  module _ (g : old.registered ≡ 1) where
    narrow : NarrowLane new
    narrow = order_narrow (capacity t) o.power.most new (release_pending_keeps (capacity t) o.power.most old (o.lanes x h g))

    view_given : view (put_lane t new) r ≡ put x (credited slot) (view t r)
    unfolding slot_at
    view_given =
        view_put_counts t r o.shaped x h new back.same_key narrow back.same_head back.same_tail back.same_registered back.same_living back.same_paused back.same_pending
        ∙ ap (λ (m : Slot). put x m (view t r))
        (given_back slot _ _ (sees_flag ∙ rw g) (omega (arith, back.unreleased))
        (omega (arith, back.window, back.burst) ∙ sym (ap (λ (m : Slot). m.burst) (slot_in t r x h))))

    stores_given : Stores (put_lane t new) r
    stores_given =
        let k = release_pending_keeps (capacity t) o.power.most old (o.lanes x h g) in
        let f = o.flags x h in
        stores_after_lem t r (put_lane t new) r o x h new (queue_of t) (head t)
        (step_put_lane (step_start t r o x) new (slot_released t x) narrow h)
        (record {
          flags = record {
            pending_flag = rw back.same_pending f.pending_flag;
            queued_flag = rw back.same_queued f.queued_flag;
            paused_flag = rw back.same_paused f.paused_flag;
            registered_flag = rw back.same_registered f.registered_flag;
            living_flag = rw back.same_living f.living_flag;
          };
          order = λ e. k;
          fast_below = o.fast_below;
          once = o.named.once x;
          flagged = λ e. back.same_queued ∙ o.named.flagged x h g;
          rest = λ y n. refl;
          window = λ e w. absurd (omega (arith, back.window));
          windows = windows_kept t r o x (budget t) (omega arith);
          lane_count = rw back.same_registered refl;
          living_count = rw back.same_living refl;
        })
        o.rings_room

  -- a slot without a lane has no credit to give
  view_nothing : (old.registered ≡ 1 → ⊥) → view t r ≡ put x (credited slot) (view t r)
  view_nothing n =
      sym (ap (λ (m : Slot). put x m (view t r)) (nothing_back slot (sees_flag ∙ ne_eqb old.registered 1 n)) ∙ put_same x (view t r))

  view_release_slot : view (release_slot t x) r ≡ put x (credited slot) (view t r)
  view_release_slot = release_slot_is (λ u. view u r ≡ put x (credited slot) (view t r)) t x view_given view_nothing

  stores_release_slot : Stores (release_slot t x) r
  stores_release_slot = release_slot_is (λ u. Stores u r) t x stores_given (λ n. o)

-- ---- all slots, in the rules' state

-- the credit of n slots from k on
unfoldable credit_from : ℕ → ℕ → State → State
credit_from zero k s = s
credit_from (suc n) k s = credit_from n (k + 1) (put k (credited (s.slot_of k)) s)

put_other : (x y : ℕ) (l : Slot) (s : State) → x ≢ y → (put x l s).slot_of y ≡ s.slot_of y
put_other x y l s n = rw (ne_eqb x y n)

-- a slot outside
credit_below : (n k : ℕ) (s : State) (y : ℕ) → y < k → (credit_from n k s).slot_of y ≡ s.slot_of y
unfolding credit_from
credit_below zero k s y h = refl
credit_below (suc n) k s y h =
    credit_below n (k + 1) (put k (credited (s.slot_of k)) s) y (omega arith) ∙ put_other k y (credited (s.slot_of k)) s (λ e. omega arith)

credit_above : (n k : ℕ) (s : State) (y : ℕ) → k + n ≤ y → (credit_from n k s).slot_of y ≡ s.slot_of y
unfolding credit_from
credit_above zero k s y h = refl
credit_above (suc n) k s y h =
    credit_above n (k + 1) (put k (credited (s.slot_of k)) s) y (omega arith) ∙ put_other k y (credited (s.slot_of k)) s (λ e. omega arith)

-- a slot among them
credit_inside : (n k : ℕ) (s : State) (y : ℕ) → k ≤ y → y < k + n → (credit_from n k s).slot_of y ≡ credited (s.slot_of y)
unfolding credit_from
credit_inside zero k s y a b = absurd (omega arith)
credit_inside (suc n) k s y a b = elim (same? k y) [
  | equal e p i ↦
      credit_below n (k + 1) (put k (credited (s.slot_of k)) s) y (omega arith)
      ∙ subst (λ (z : ℕ). (put k (credited (s.slot_of k)) s).slot_of z ≡ credited (s.slot_of z)) e (put_own k (credited (s.slot_of k)) s)
  | other d p i ↦
      credit_inside n (k + 1) (put k (credited (s.slot_of k)) s) y (omega (arith, d)) (omega arith) ∙ ap credited (put_other k y (credited (s.slot_of k)) s d)
]

-- nothing but slots changes
credit_rest : (n k : ℕ) (s : State) → credit_from n k s ≡ with_slots (credit_from n k s).slot_of s
unfolding credit_from
credit_rest zero k s = refl
credit_rest (suc n) k s = credit_rest n (k + 1) (put k (credited (s.slot_of k)) s)

-- ---- all slots

module _ (r : List ℕ) where
  view_release_from : (n k : ℕ) (t : List ℕ) → Stores t r → k + n ≤ issued t → view (for_slots release_slot n k t) r ≡ credit_from n k (view t r)
  unfolding for_slots credit_from
  view_release_from zero k t o h = refl
  view_release_from (suc n) k t o h =
      view_release_from n (k + 1) (release_slot t k) (stores_release_slot t r o k (omega arith)) (rw (head_release_slot t k 0 refl) (omega arith))
      ∙ ap (credit_from n (k + 1)) (view_release_slot t r o k (omega arith))

  stores_release_from : (n k : ℕ) (t : List ℕ) → Stores t r → k + n ≤ issued t → Stores (for_slots release_slot n k t) r
  unfolding for_slots
  stores_release_from zero k t o h = o
  stores_release_from (suc n) k t o h =
      stores_release_from n (k + 1) (release_slot t k) (stores_release_slot t r o k (omega arith)) (rw (head_release_slot t k 0 refl) (omega arith))

module _ (t r : List ℕ) (o : Stores t r) where
  credited_vacant : credited vacant ≡ vacant
  unfolding vacant
  credited_vacant = refl

  credited_all : (y : ℕ) → (credit_from (issued t) 0 (view t r)).slot_of y ≡ credited ((view t r).slot_of y)
  credited_all y = go (ltb y (issued t)) refl
    where
      go : (b : Bool) → ltb y (issued t) ≡ b → (credit_from (issued t) 0 (view t r)).slot_of y ≡ credited ((view t r).slot_of y)
      go true e = credit_inside (issued t) 0 (view t r) y (omega arith) (omega (arith, ltb-true y (issued t) e))
      go false e =
          credit_above (issued t) 0 (view t r) y (omega (arith, ltb-false y (issued t) e))
          ∙ slot_out t r y e ∙ sym credited_vacant ∙ ap credited (sym (slot_out t r y e))

  pub view_release_all : view (release_all t) r ≡ receives.release_all (view t r)
  unfolding release_all receives.release_all
  view_release_all =
      view_release_from r (issued t) 0 t o (omega arith)
      ∙ credit_rest (issued t) 0 (view t r)
      ∙ state_path _ _ credited_all refl refl refl refl refl refl refl refl refl refl

  pub stores_release_all : Stores (release_all t) r
  unfolding release_all
  stores_release_all = stores_release_from r (issued t) 0 t o (omega arith)

pub release_consumed_alike : (t r : List ℕ) → StoreInOrder t r → seen (release_consumed t r) ≡ (rules.release_consumed (view t r)).1
unfolding release_consumed rules.release_consumed
release_consumed_alike t r o =
    refused_alike (receiver_verdict t) _ t r (Done, release_all t, r) (says Done (receives.release_all (view t r))) (receiver_verdict_lem t r)
    (λ e. ap (λ (s : State). (Done, s)) (view_release_all t r o.stores))

pub release_consumed_keeps : (t r : List ℕ) → StoreInOrder t r → Stores (release_consumed t r).1 (release_consumed t r).2
unfolding release_consumed
release_consumed_keeps t r o =
    unless_refused_case (λ w. Stores w.1 w.2) (receiver_verdict t) t r (Done, release_all t, r) (λ why e. o.stores)
    (λ e. stores_release_all t r o.stores)
