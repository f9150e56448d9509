-- The ring of capacity 4: what a send and a receive of a lane in order hand on, and that it is in order.
-- Assumes nothing.
use Rattle.std.specs.Prelude.{Option, Result}
use mathlib.Core.Path.{◌≡◌, refl, ◌∙◌, ap, sym}
use mathlib.Core.Bool.{false}
use mathlib.Core.List.{List}
use Prim.Native.Nat.{ℕ}
use native.Mathlib.Omega.{arith}
use Rattle.yring.specs.Cursor.{Capacity}
use Rattle.yring.specs.Ring.{new_ring}
use Rattle.lane.specs.Lane.{push_and_flush_item, poll}
use Rattle.lane.specs.Order.{InOrder, sent_lane, polled_lane}
use Rattle.yring.specs.declared.ring.Ring.{Ring}
use Rattle.lane.specs.declared.lane.Lane.{Lane}
use Rattle.lane.specs.declared.lane.LanePoll.{LanePoll}
use Rattle.lane.specs.declared.producer.Sent.{Sent}
use Rattle.lane.proofs.OrderLaws.{push_and_flush_keeps, poll_keeps}
use Rattle.lane.specs.declared.lane.EmptyLane.{EmptyLane}

pub four : Capacity 4
four = record { log = 2; small = omega arith; is = refl; most = omega arith }

module _ (store : List ℕ) (l : Lane) (o : InOrder 4 l) (ring : Ring) (e : ring ≡ new_ring 0 4) (m : Lane) where
  pub sends : (item : ℕ) (s : Option Sent) (after : List ℕ) → (s, after) ≡ push_and_flush_item ring store item l → sent_lane l s ≡ m
      → (m ≡ sent_lane l (push_and_flush_item (new_ring 0 4) store item l).0) × (after ≡ (push_and_flush_item (new_ring 0 4) store item l).1) × InOrder 4 m
  sends item s after p f =
      let q : (s, after) ≡ push_and_flush_item (new_ring 0 4) store item l = rw e at p in
      let g : m ≡ sent_lane l (push_and_flush_item (new_ring 0 4) store item l).0 = sym f ∙ ap (λ (x : Option Sent × List ℕ). sent_lane l x.0) q in
      (g, ap (λ (x : Option Sent × List ℕ). x.1) q, rw g (push_and_flush_keeps (new_ring 0 4) (omega arith) store item l o))

  pub receives : (r : Result LanePoll EmptyLane) → r ≡ poll ring store false l → polled_lane r ≡ m
      → (m ≡ polled_lane (poll (new_ring 0 4) store false l)) × InOrder 4 m
  receives r p f =
      let q : r ≡ poll (new_ring 0 4) store false l = rw e at p in
      let g : m ≡ polled_lane (poll (new_ring 0 4) store false l) = sym f ∙ ap polled_lane q in
      (g, rw g (poll_keeps (new_ring 0 4) (omega arith) store l o false))
