-- The front lane gives an item: what the rules see of it, and that a store in order is left.
-- Assumes nothing.
use Rattle.std.specs.Prelude.{Result, Ok}
use mathlib.Core.Path.{◌≡◌, refl, sym, ap, ap₂, ◌∙◌, subst}
use mathlib.Core.Bool.{Bool}
use mathlib.Core.List.{List, [], ◌∷◌, ◌++◌}
use Prim.Native.Nat.{ℕ, zero, suc, ◌+◌, ◌-◌, ◌<◌}
use native.Mathlib.Omega.{arith}
use borrow.Author.Tests.{ne_eqb}
use lib.Dec.{eqb, leb}
use Rattle.model.specs.Lists.{if, either}
use Rattle.model.specs.State.{Slot, release_batch}
use Rattle.model.specs.Changes.{with_queue, with_budget, put, popped}
use Rattle.model.specs.Order.{Ordered}
use Rattle.model.specs.Turn as rules
use Rattle.demands.proofs.OrderKept as kept
use Rattle.lane.specs.declared.lane.Lane.{Lane}
use Rattle.lane.specs.declared.lane.LanePoll.{LanePoll}
use Rattle.yring.specs.Ring.{new_ring}
use Rattle.lane.specs.Lane.{held_items, poll}
use Rattle.lane.specs.Order.{InOrder, polled_lane}
use Rattle.lane.specs.Table.{lane_at}
use Rattle.lane.proofs.OrderLaws.{poll_keeps}
use Rattle.lane.proofs.HeldLaws.{poll_takes_first}
use Rattle.queues.specs.Header.{issued, budget, capacity}
use Rattle.queues.specs.Queue.{queue_of}
use Rattle.store.specs.View.{slot_at, view}
use Rattle.store.specs.Order.{Stores, InOrderButHeld}
use Rattle.turns.specs.Turn.{less_one, gave_front}
use Rattle.store.proofs.ViewLaws.{slot_in}
use Rattle.store.proofs.StoreLaws.{issued_ring_in}
use Rattle.store.proofs.LaneFields.{flagged, PollKept, poll_kept}
use Rattle.store.proofs.LaneView.{Polled, poll_counts}
use Rattle.store.proofs.BetweenTurns.{FrontLane, front_lane_lem}
use Rattle.refinement.proofs.FrontBack.{Back, back_view, back_stores}
use Rattle.lane.specs.declared.lane.EmptyLane.{EmptyLane}

-- the budget after an item is the rules'
less_one_alike : (n : ℕ) → less_one n ≡ rules.refill n - 1
unfolding less_one rules.refill
less_one_alike zero = refl
less_one_alike (suc n) = rw (ne_eqb (suc n) 0 (λ z. omega arith))

-- ---- the lane in slot x as the poll leaves it

pub record Gives (t r : List ℕ) (x : ℕ) (fair : Bool) (item : ℕ) (rotate : Bool) (m : Lane) : Type 0 where
  pub takes : held_items (new_ring x (capacity t)) r (lane_at t x) ≡ item ∷ held_items (new_ring x (capacity t)) r m
  pub counts : Polled (capacity t) fair (lane_at t x) rotate m
  pub same_flags : flagged m ≡ flagged (lane_at t x)
  pub order : InOrder (capacity t) m

pub gives_by_poll : (t r : List ℕ) → Stores t r → (x : ℕ) → x < issued t → (lane_at t x).registered ≡ 1 → (fair : Bool) (item : ℕ) (rotate gave : Bool) (m : Lane)
    → poll (new_ring x (capacity t)) r fair (lane_at t x) ≡ Ok (record { item = item; rotate = rotate; released = gave; lane = m }) → Gives t r x fair item rotate m
gives_by_poll t r o x h g fair item rotate gave m e =
    let i = o.lanes x h g in
    record {
      takes = poll_takes_first (new_ring x (capacity t)) r (lane_at t x) (issued_ring_in t r o x h) i fair item rotate gave m e;
      counts = poll_counts (new_ring x (capacity t)) r fair (lane_at t x) i item rotate gave m e;
      same_flags = subst (PollKept (lane_at t x)) e (poll_kept (new_ring x (capacity t)) r fair (lane_at t x));
      order = subst (λ (p : Result LanePoll EmptyLane). InOrder (capacity t) (polled_lane p)) e (poll_keeps (new_ring x (capacity t)) o.power.most r (lane_at t x) i fair);
    }

-- ---- it goes back to its slot, and to the back where its turn is over

module _ (t r : List ℕ) (o : InOrderButHeld t r) (x : ℕ) (q : List ℕ) (e : queue_of t ≡ x ∷ q) (fair : Bool) (item : ℕ) (rotate : Bool) (m : Lane) (k : Gives t r x fair item rotate m) where
  abbrev slot : Slot
  slot = (view t r).slot_of x

  -- the items left
  abbrev left : List ℕ
  left = held_items (new_ring x (capacity t)) r m

  front : FrontLane t x q
  front = front_lane_lem t r o x q e

  sees : slot ≡ slot_at t r x
  sees = slot_in t r x front.is_issued

  -- the rules' items of the lane
  pub gave_first : slot.ring ≡ item ∷ left
  unfolding slot_at
  gave_first = ap (λ (s : Slot). s.ring) sees ∙ k.takes

  pub gave_turn_over : rotate ≡ either fair (leb 63 slot.burst)
  unfolding slot_at
  gave_turn_over = k.counts.turn_over ∙ ap (λ (s : Slot). either fair (leb 63 s.burst)) (sym sees)

  unreleased_after_lem : m.unreleased ≡ rules.unreleased_after_one (view t r) x
  unfolding rules.unreleased_after_one slot_at view
  unreleased_after_lem = k.counts.unreleased_is ∙ ap (λ (s : Slot). if (eqb (s.unreleased + 1) (release_batch (capacity t))) 0 (s.unreleased + 1)) (sym sees)

  burst_after : m.burst ≡ if rotate 0 (slot.burst + 1)
  unfolding slot_at
  burst_after = k.counts.burst_is ∙ ap (λ (s : Slot). if rotate 0 (s.burst + 1)) (sym sees)

  back : Back t x m
  back = record { same_flags = k.same_flags; order = k.order; closed = k.counts.closed }

  -- the rules' step
  pub gave_view : view (gave_front t rotate m) r ≡ rules.give_item (view t r) x q left (either fair (leb 63 slot.burst))
  unfolding gave_front rules.give_item view
  gave_view =
      back_view t r o x q e rotate m back (less_one (budget t))
      ∙ ap (λ (n : ℕ). with_budget n (with_queue (if rotate (q ++ (x ∷ [])) (x ∷ q)) (put x (popped left m.unreleased m.burst slot) (view t r)))) (less_one_alike (budget t))
      ∙ ap₂ (λ (u n : ℕ). with_budget (rules.refill (budget t) - 1) (with_queue (if rotate (q ++ (x ∷ [])) (x ∷ q)) (put x (popped left u n slot) (view t r)))) unreleased_after_lem burst_after
      ∙ ap (rules.give_item (view t r) x q left) gave_turn_over

  gave_stores : Stores (gave_front t rotate m) r
  unfolding gave_front
  gave_stores = back_stores t r o x q e rotate m back (less_one (budget t))

  pub gave_in_order : InOrderButHeld (gave_front t rotate m) r
  unfolding view
  gave_in_order =
      record {
        stores = gave_stores;
        ordered =
            subst Ordered (sym gave_view)
            (kept.give_item_ordered (view t r) x q left (either fair (leb 63 slot.burst)) e (kept.back_room fair slot.burst) o.ordered);
      }
