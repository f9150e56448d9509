-- A lane found empty, by a poll or by a look: what holds of the lane that is handed back.
-- Assumes nothing.
use Rattle.std.specs.Prelude.{Result, Ok, Err}
use mathlib.Core.Path.{◌≡◌, refl, subst}
use mathlib.Core.Bool.{Bool, true, false, cond}
use mathlib.Core.List.{List}
use Prim.Native.Nat.{ℕ, ◌<◌}
use borrow.Author.Tests.{eqb-true}
use lib.Dec.{eqb}
use Rattle.model.specs.State.{Slot}
use Rattle.lane.specs.declared.lane.EmptyLane.{EmptyLane}
use Rattle.lane.specs.declared.lane.LanePoll.{LanePoll}
use Rattle.yring.specs.Ring.{new_ring}
use Rattle.lane.specs.Lane.{reload, close_fast, settle_empty, ready_or_idle, refill, poll}
use Rattle.lane.specs.Order.{InOrder, refilled_lane, polled_lane}
use Rattle.lane.specs.Table.{lane_at}
use Rattle.lane.proofs.OrderLaws.{refill_keeps, poll_keeps}
use Rattle.queues.specs.Header.{issued, capacity}
use Rattle.store.specs.Order.{Stores}
use Rattle.store.proofs.LaneFields.{Emptied, RefillKept, PollKept, refill_kept, poll_kept}
use Rattle.store.proofs.LaneView.{FoundIdle, settled_idle, poll_idle}
use Rattle.lane.specs.declared.lane.Lane.{Lane}

-- the slots of the rules, field by field
pub slot_path : (l m : Slot) → l.registered ≡ m.registered → l.living ≡ m.living → l.paused ≡ m.paused → l.pending ≡ m.pending → l.marked ≡ m.marked
    → l.generation ≡ m.generation → l.ring ≡ m.ring → l.unreleased ≡ m.unreleased → l.burst ≡ m.burst → l ≡ m
slot_path l m a b c d e f g h i =
    λ t. record { registered = a t; living = b t; paused = c t; pending = d t; marked = e t; generation = f t; ring = g t; unreleased = h t; burst = i t }

-- what `found` says of the lane in slot x
pub record Empties (t r : List ℕ) (x : ℕ) (found : EmptyLane) : Type 0 where
  pub idle : FoundIdle (new_ring x (capacity t)) r (lane_at t x) found
  pub fixed : Emptied (lane_at t x) found
  pub order : InOrder (capacity t) found.lane

module _ (t r : List ℕ) (o : Stores t r) (x : ℕ) (h : x < issued t) (g : (lane_at t x).registered ≡ 1) (found : EmptyLane) where
  pub empties_by_poll : (fair : Bool) → poll (new_ring x (capacity t)) r fair (lane_at t x) ≡ Err found → Empties t r x found
  empties_by_poll fair e =
      let i = o.lanes x h g in
      record {
        idle = poll_idle (new_ring x (capacity t)) o.power.most r (lane_at t x) i fair found e;
        fixed = subst (PollKept (lane_at t x)) e (poll_kept (new_ring x (capacity t)) r fair (lane_at t x));
        order = subst (λ (p : Result LanePoll EmptyLane). InOrder (capacity t) (polled_lane p)) e (poll_keeps (new_ring x (capacity t)) o.power.most r (lane_at t x) i fair);
      }

  found_idle : refill (lane_at t x) ≡ Err found → FoundIdle (new_ring x (capacity t)) r (lane_at t x) found
  unfolding refill ready_or_idle
  found_idle e = go (eqb (reload (close_fast (lane_at t x))).cached 0) refl e
    where
      go : (b : Bool) → eqb (reload (close_fast (lane_at t x))).cached 0 ≡ b
          → cond b (Err (settle_empty (reload (close_fast (lane_at t x))))) (Ok (reload (close_fast (lane_at t x)))) ≡ Err found
          → FoundIdle (new_ring x (capacity t)) r (lane_at t x) found
      go true s f =
          let same : settle_empty (reload (close_fast (lane_at t x))) ≡ found = cc in
          rw (← same) (settled_idle (new_ring x (capacity t)) o.power.most r (lane_at t x) (o.lanes x h g) (eqb-true _ 0 s))
      go false s f = absurd cc

  pub empties_by_refill : refill (lane_at t x) ≡ Err found → Empties t r x found
  empties_by_refill e =
      record {
        idle = found_idle e;
        fixed = subst (RefillKept (lane_at t x)) e (refill_kept (lane_at t x));
        order = subst (λ (p : Result Lane EmptyLane). InOrder (capacity t) (refilled_lane p)) e (refill_keeps (capacity t) o.power.most (lane_at t x) (o.lanes x h g));
      }
