-- The batch around its loop: refusals, credit given back by every lane, the answer.
-- Assumes nothing.
use mathlib.Core.Path.{◌≡◌, refl, sym, ap, ◌∙◌, subst}
use mathlib.Core.Bool.{Bool, true, false, cond}
use mathlib.Core.List.{List}
use Prim.Native.Nat.{ℕ, zero, suc, ◌+◌, ◌≤◌, ◌<◌}
use native.Mathlib.Omega.{arith}
use borrow.Author.Tests.{ltb-false}
use lib.Dec.{ltb}
use lib.ListN.{length}
use Rattle.model.specs.Lists.{count}
use Rattle.model.specs.declared.Answer.{Answer}
use Rattle.model.specs.declared.Answer.TheVariants.{Refused}
use Rattle.model.specs.declared.Refusal.{Refusal}
use Rattle.model.specs.declared.Refusal.TheVariants.{OutputShort}
use Rattle.model.specs.Receive as rules
use Rattle.lane.specs.declared.lane.Lane.{Lane}
use Rattle.lane.specs.Lane.{release_pending}
use Rattle.lane.specs.Table.{head, lane_at, put_lane}
use Rattle.lane.proofs.OrderLaws.{order_narrow, release_pending_keeps, refundable}
use Rattle.queues.specs.Header.{Shaped, issued, queue_count, capacity, lane_count}
use Rattle.queues.specs.Queue.{queue_of}
use Rattle.queues.specs.Registry.{free_of}
use Rattle.queues.proofs.RegistryLaws.{registry_frames}
use Rattle.store.specs.View.{flag}
use Rattle.store.specs.Refusal.{Verdict}
use Rattle.std.specs.Prelude.{Ok, Err}
use Rattle.store.specs.Refusal.{receiver_verdict, and_then}
use Rattle.store.specs.Words.{unless_refused, with_rings}
use Rattle.turns.specs.Turn.{Turning}
use Rattle.turns.specs.Drained.{Idle}
use Rattle.all_lanes.specs.AllLanes.{for_slots, AllRefundable, release_slot, release_all}
use Rattle.receive_batch.specs.Batch.{drained, drain_into, room_verdict, batch_verdict, answer_items, RestsAt, batch_answer, batch_words, handed_by, batch_hands, try_recv_batch_into}
use Rattle.store.proofs.CountLaws.{one}
use Rattle.store.proofs.StepLaws.{Step, step_from, step_put_lane}
use Rattle.store.proofs.CreditLaws.{GivesBack, gives_back}
use Rattle.all_lanes.proofs.SlotLoops.{release_slot_is, slot_released, head_release_slot}
use Rattle.turns.proofs.TurnLaws.{turning_step}
use Rattle.receive_batch.proofs.DrainLaws.{drained_keeps, drained_rests}
use Rattle.receive_batch.proofs.OutputLaws.{output_none}

-- ---- credit

module _ (t : List ℕ) (k : Turning t) (x : ℕ) (h : x < issued t) (e : (lane_at t x).registered ≡ 1) where
  abbrev new : Lane
  new = (release_pending (lane_at t x)).lane

  back : GivesBack (lane_at t x) new
  back = gives_back (lane_at t x)

  stored : Step t (put_lane t new) x new (queue_of t) (head t)
  stored = step_put_lane (step_from t k.shaped k.linked x) new (slot_released t x)
      (order_narrow (capacity t) k.power.most new (release_pending_keeps (capacity t) k.power.most (lane_at t x) (k.lanes x h e))) h

  free_stored : free_of (put_lane t new) ≡ free_of t
  free_stored = simp registry_frames

  turning_given : Turning (put_lane t new)
  turning_given =
      turning_step k stored h (λ i. release_pending_keeps (capacity t) k.power.most (lane_at t x) (k.lanes x h e)) (λ y d. refl) (k.names.once x)
      (λ i. back.same_registered ∙ e) (λ i. back.same_queued ∙ k.names.flagged x h e) (λ y d. ap (count y) free_stored) (rw free_stored (k.free_once x))
      (λ i j. k.free_unregistered x (rw free_stored at i) e) (ap (λ (a : ℕ). lane_count t + one (flag a)) (sym back.same_registered))

turning_release_from : (n x : ℕ) (t : List ℕ) → Turning t → x + n ≤ issued t → Turning (for_slots release_slot n x t)
unfolding for_slots
turning_release_from zero x t k m = k
turning_release_from (suc n) x t k m =
    turning_release_from n (x + 1) (release_slot t x) (release_slot_is Turning t x (turning_given t k x (omega arith)) (λ i. k)) (rw (head_release_slot t x 0 refl) (omega arith))

queued_release_from : (n x : ℕ) (t : List ℕ) → queue_count (for_slots release_slot n x t) ≡ queue_count t
unfolding for_slots
queued_release_from zero x t = refl
queued_release_from (suc n) x t = queued_release_from n (x + 1) (release_slot t x) ∙ head_release_slot t x 2 refl

pub idle_release_all : (t : List ℕ) → Idle t → Idle (release_all t)
unfolding release_all
idle_release_all t i =
    record {
      turning = turning_release_from (issued t) 0 t i.turning (omega arith);
      none_queued = queued_release_from (issued t) 0 t ∙ i.none_queued;
    }

pub turning_refunds : (t : List ℕ) → Turning t → Shaped t × AllRefundable t
turning_refunds t k = (k.shaped, λ x h e. refundable (capacity t) k.power.most (lane_at t x) (k.lanes x h e))

-- ---- the refusals

pub batch_room : (t : List ℕ) (limit room : ℕ) → batch_verdict t limit room ≡ Ok tt → limit ≤ room
unfolding batch_verdict room_verdict and_then
batch_room t limit room e = go (receiver_verdict t) e
  where
    short : (b : Bool) → ltb room limit ≡ b → ◌≡◌ {A = Verdict} (cond b (Err OutputShort) (Ok tt)) (Ok tt) → limit ≤ room
    short true s f = absurd cc
    short false s f = ltb-false room limit s

    go : (v : Verdict) → and_then v (cond (ltb room limit) (Err OutputShort) (Ok tt)) ≡ Ok tt → limit ≤ room
    go (Ok u) f = short (ltb room limit) refl f
    go (Err why) f = absurd cc

module _ (t r out : List ℕ) (limit : ℕ) where
  by_verdict : (v : Verdict) → Answer × List ℕ × List ℕ × List ℕ
  by_verdict v =
      let w = unless_refused v t r (with_rings r (batch_answer t r limit)) in
      (w.0, w.1, w.2, rules.written_to (handed_by v (drained t r limit).0) out)

  is_by_verdict : try_recv_batch_into t r out limit ≡ by_verdict (batch_verdict t limit (length out))
  unfolding try_recv_batch_into batch_words batch_hands by_verdict
  is_by_verdict = refl

  pub batch_refused : (why : Refusal) → batch_verdict t limit (length out) ≡ Err why → (Refused why, t, r, out) ≡ try_recv_batch_into t r out limit
  unfolding by_verdict unless_refused handed_by
  batch_refused why e = sym (is_by_verdict ∙ ap by_verdict e ∙ ap (λ (o : List ℕ). (Refused why, t, r, o)) (output_none out))

  module _ (n : ℕ) (u o : List ℕ) (d : (n, u, o) ≡ drain_into t r out limit) where
    pub batch_done : (a : Answer) (v w : List ℕ) → batch_verdict t limit (length out) ≡ Ok tt → w ≡ release_all u → (a, v) ≡ answer_items limit n w → (a, v, r, o) ≡ try_recv_batch_into t r out limit
    unfolding by_verdict unless_refused handed_by batch_answer drain_into
    batch_done a v w e p q =
        ap (λ (z : Answer × List ℕ). (z.0, z.1, r, o)) (q ∙ ap (answer_items limit n) p)
        ∙ ap (λ (z : ℕ × List ℕ × List ℕ). ((answer_items limit z.0 (release_all z.1)).0, (answer_items limit z.0 (release_all z.1)).1, r, z.2)) d
        ∙ sym (is_by_verdict ∙ ap by_verdict e)

    module _ (k : Turning t) where
      drained_is : u ≡ (drained t r limit).1
      unfolding drain_into
      drained_is = ap (λ (z : ℕ × List ℕ × List ℕ). z.1) d

      pub batch_refunds : Shaped u × AllRefundable u
      batch_refunds = turning_refunds u (subst Turning (sym drained_is) (drained_keeps t r limit k).turning)

      -- what the answer asks
      pub batch_rests : (w : List ℕ) → w ≡ release_all u → RestsAt limit n w
      unfolding drain_into
      batch_rests w p z h =
          subst Idle (sym p)
          (idle_release_all u (subst Idle (sym drained_is) (drained_rests t r limit k h (ap (λ (x : ℕ × List ℕ × List ℕ). x.0) (sym d) ∙ z))))
