-- What the code's ways out of a plain and of a lone lane's fair receive have for the definitions' parts.
-- Assumes nothing.
use Rattle.std.specs.Prelude.{Option, Some, None}
use Rattle.store.specs.Order.{but_held}
use mathlib.Core.Path.{◌≡◌, sym, ap, ap₂, ◌∙◌}
use mathlib.Core.List.{List}
use Prim.Native.Nat.{ℕ, ◌-◌, ◌≤◌, ◌<◌}
use native.Mathlib.Omega.{arith}
use lib.ListN.{length}
use borrow.Author.Tests.{ne_eqb, lt-ltb, le-ltb}
use Rattle.yring.specs.declared.ring.Ring.{Ring}
use Rattle.lane.specs.declared.consumer.Taken.{Taken}
use Rattle.lane.specs.declared.lane.Lane.{Lane}
use Rattle.yring.specs.Ring.{Within, new_ring}
use Rattle.lane.specs.Lane.{pop_window, fair_window, pop_fair, pop_fast, pop_lone}
use Rattle.lane.specs.Table.{lane_at, put_lane}
use Rattle.lane.proofs.WindowLaws.{pop_fast_none, pop_fast_some, pop_fair_none, pop_fair_some}
use Rattle.queues.specs.Header.{Shaped, issued, slots, queue_count, budget, capacity, channel, fast_slot, set_budget}
use Rattle.queues.specs.Queue.{front_slot}
use Rattle.turns.specs.declared.turn.Took.{Took}
use Rattle.turns.specs.Drained.{Rests}
use Rattle.turns.specs.Turn.{Turning, front_lane}
use Rattle.receive.specs.Receive.{else_take, take_from_window, fast_took, take_fast, FastOpen, take_if_popped, try_recv_refill, take_one, take_lone}
use Rattle.lane.proofs.TableLaws.{frames, slot_of_lane}
use Rattle.turns.proofs.TurnLaws.{slot_below, ring_in}
use Rattle.receive.proofs.ReceiveLaws.{fast_room, lone_room, take_fast_is, take_lone_is}
use Rattle.turns.proofs.DueLaws.{turning_of, ringed_of}

-- ---- the plain receive

module _ (t r : List ℕ) where
  refill_is : take_fast t r ≡ (None, t) → try_recv_refill t r ≡ take_one t r
  unfolding take_one else_take
  refill_is e = sym (ap (λ (o : Option Took × List ℕ). else_take o (λ u. try_recv_refill u r)) e)

  pub unissued_refill : issued t ≤ fast_slot t → try_recv_refill t r ≡ take_one t r
  unfolding take_fast
  unissued_refill h = refill_is (simp (le-ltb (fast_slot t) (issued t) h))

  module _ (h : fast_slot t < issued t) (l : Lane) (e : l ≡ lane_at t (fast_slot t)) where
    pub unregistered_refill : (l.registered ≡ 1 → ⊥) → try_recv_refill t r ≡ take_one t r
    unfolding take_fast
    unregistered_refill n =
        refill_is (simp (lt-ltb (fast_slot t) (issued t) h, ne_eqb (lane_at t (fast_slot t)).registered 1 (λ z. n (ap (λ (m : Lane). m.registered) e ∙ z))))

    pub closed_refill : l.registered ≡ 1 → l.window ≡ 0 → try_recv_refill t r ≡ take_one t r
    unfolding fast_took
    closed_refill g w =
        refill_is
        (sym
        (take_fast_is t r h (sym (ap (λ (m : Lane). m.registered) e) ∙ g) None
        (pop_fast_none (new_ring (fast_slot t) (capacity t)) r (lane_at t (fast_slot t)) (sym (ap (λ (m : Lane). m.window) e) ∙ w))))

module _ (t r : List ℕ) (l : Lane) (k : FastOpen t r l) where
  pub open_slot : l.key.slot ≡ fast_slot t
  open_slot = ap (λ (m : Lane). m.key.slot) k.is_lane ∙ slot_of_lane t (fast_slot t)

  pub open_ring : (ring : Ring) → ring ≡ new_ring l.key.slot (capacity t) → ring ≡ new_ring (fast_slot t) (capacity t)
  open_ring ring e = e ∙ ap (λ (x : ℕ). new_ring x (capacity t)) open_slot

  pub open_sizes : (l.key.slot < 8192) × (capacity t ≤ 65536)
  open_sizes =
      let turning = turning_of t r (but_held k.in_order) in
      (rw open_slot (omega (arith, slot_below t turning (fast_slot t) k.is_issued, turning.shaped.slots_most)), turning.power.most)

  pub open_within : (ring : Ring) → ring ≡ new_ring l.key.slot (capacity t) → Within ring (length r) × (0 < l.window)
  open_within ring e = (
    rw (open_ring ring e) (ring_in t (turning_of t r (but_held k.in_order)) (fast_slot t) k.is_issued r (ringed_of t r (but_held k.in_order))),
    omega (arith, k.is_open),
  )

-- a window's take leaves nothing to be settled
pub window_rests : (t : List ℕ) (item : ℕ) (l : Lane) → Rests (take_from_window t item l)
unfolding take_from_window
window_rests t item l = omega arith

-- and what names the opening as it was
pub window_channel : (t u : List ℕ) (took : Option Took) (item : ℕ) (l : Lane) → (took, u) ≡ take_from_window t item l → channel u ≡ channel t
unfolding take_from_window
window_channel t u took item l e =
    let same : channel (set_budget (put_lane t l) (budget t - 1)) ≡ channel t = simp frames in
    ap (λ (o : Option Took × List ℕ). channel o.1) e ∙ same

module _ (t r : List ℕ) (l : Lane) (k : FastOpen t r l) (ring : Ring) (a : ring ≡ new_ring (fast_slot t) (capacity t)) (x : Taken) (e : x ≡ pop_window ring r l) where
  here : x ≡ pop_window (new_ring (fast_slot t) (capacity t)) r (lane_at t (fast_slot t))
  here = e ∙ ap₂ (λ (g : Ring) (m : Lane). pop_window g r m) a k.is_lane

  registered : (lane_at t (fast_slot t)).registered ≡ 1
  registered = sym (ap (λ (m : Lane). m.registered) k.is_lane) ∙ k.is_registered

  popped : pop_fast (new_ring (fast_slot t) (capacity t)) r (lane_at t (fast_slot t)) ≡ Some x
  popped =
      pop_fast_some (new_ring (fast_slot t) (capacity t)) r (lane_at t (fast_slot t)) (λ z. k.is_open (ap (λ (m : Lane). m.window) k.is_lane ∙ z))
      ∙ ap (λ (y : Taken). Some y) (sym here)

  pub open_room : Shaped t × (x.lane.key.slot < slots t) × (0 < budget t)
  open_room = fast_room t r k.in_order k.is_issued registered x popped

  pub open_take : take_from_window t x.item x.lane ≡ take_one t r
  unfolding take_one else_take fast_took take_from_window
  open_take = ap (λ (o : Option Took × List ℕ). else_take o (λ u. try_recv_refill u r)) (take_fast_is t r k.is_issued registered (Some x) popped)

-- ---- the fair receive of a lone lane

-- a window that is open stays
pub fair_open : (C b : ℕ) (l m : Lane) → l ≡ m → (l.window ≡ 0 → ⊥) → l ≡ fair_window C b m
unfolding fair_window
fair_open C b l m e n =
    let same : fair_window C b m ≡ m = simp (ne_eqb m.window 0 (λ z. n (ap (λ (g : Lane). g.window) e ∙ z))) in
    e ∙ sym same

module _ (t r : List ℕ) (one : queue_count t ≡ 1) (l : Lane) (b : l ≡ fair_window (capacity t) (budget t) (front_lane t)) where
  pub lone_none : l.window ≡ 0 → (None, t) ≡ take_lone t r
  unfolding take_if_popped
  lone_none e =
      take_lone_is t r one None
      (sym (pop_fair_none (new_ring (front_slot t) (capacity t)) r (budget t) (front_lane t) (sym (ap (λ (m : Lane). m.window) b) ∙ e)))

  module _ (n : l.window ≡ 0 → ⊥) (ring : Ring) (a : ring ≡ new_ring (front_slot t) (capacity t)) (x : Taken) (e : x ≡ pop_fair ring r l) where
    fair_popped : Some x ≡ pop_lone (new_ring (front_slot t) (capacity t)) r (budget t) (front_lane t)
    fair_popped =
        ap (λ (y : Taken). Some y) (e ∙ ap₂ (λ (g : Ring) (m : Lane). pop_fair g r m) a b)
        ∙ sym (pop_fair_some (new_ring (front_slot t) (capacity t)) r (budget t) (front_lane t) (λ z. n (ap (λ (m : Lane). m.window) b ∙ z)))

    pub lone_item : take_if_popped t (Some x) ≡ take_lone t r
    lone_item = take_lone_is t r one (Some x) fair_popped

    pub lone_item_room : Turning t → 0 < budget t → Shaped t × (x.lane.key.slot < slots t) × (0 < budget t)
    lone_item_room k h = lone_room t r k (λ z. omega (arith, one, z)) h x fair_popped
