-- The Rust's arm `Stale` is for an entry of the queue whose key no lane has any more: its slot holds no lane, or a later one.
-- From a store in order it never occurs. The port's queue has slots and no generations, so this has two parts:
-- a slot that stands in the queue holds a registered lane, and no call changes that lane's key.
-- The Rust's arm is inside the poll loop, after lanes that retired in the same call. `Turning` is what every turn of the loops starts from: it is what the
-- contracts of `poll_front` and `look_front` require, and each leaves it. From it alone the front slot holds a registered lane that is named once
-- (`stale_never_in_loop`, and after a turn `stale_never_next_turn`, `stale_never_next_look`). No turn changes a lane's key (TurnKeys.antt).
-- Assumes nothing.
use mathlib.Core.Path.{◌≡◌, refl, sym, ap, ◌∙◌}
use mathlib.Core.Bool.{Bool, false}
use mathlib.Core.List.{List}
use Prim.Native.Nat.{ℕ, zero, suc, ◌≤◌, ◌<◌}
use native.Mathlib.Omega.{arith}
use borrow.Author.Tests.{eqb-true, eqb-false}
use Rattle.model.specs.declared.LaneKey.{LaneKey}
use Rattle.model.specs.declared.LaneId.{LaneId}
use Rattle.model.specs.declared.Call.{Call}
use Rattle.model.specs.declared.Answer.{Answer}
use Rattle.model.specs.Lists.{count}
use Rattle.model.specs.State.{Slot, State}
use Rattle.model.specs.Rules.{outcome}
use Rattle.demands.proofs.Counting.{same_self}
use Rattle.lane.specs.Table.{lane_at}
use Rattle.queues.specs.Header.{issued, queue_count}
use Rattle.queues.specs.Queue.{queue_of, front_slot}
use Rattle.store.specs.View.{flag, slot_at, view}
use Rattle.store.specs.Order.{InOrderButHeld, StoreInOrder}
use Rattle.store.specs.Words.{Words}
use Rattle.turns.specs.Turn.{Turning, poll_front}
use Rattle.receive_batch.specs.Batch.{look_front}
use Rattle.receive_from.specs.Target.{try_recv_from}
use Rattle.store.proofs.ViewLaws.{slot_in}
use Rattle.store.proofs.RefusalLaws.{seen}
use Rattle.store.proofs.StoreLaws.{registered_seen}
use Rattle.turns.proofs.TurnLaws.{queue_is, front_issued, front_registered, front_alone}
use Rattle.turns.proofs.FrontLaws.{poll_front_turned}
use Rattle.receive_batch.proofs.LookLaws.{look_front_looked}
use Rattle.refinement.proofs.TryRecvFromLaws.{try_recv_from_keeps}
use Rattle.refinement.proofs.KeysKept.{call_keeps_generation, call_keeps_issued}

-- the generation that the rules see, and that it is all of a slot's key that its words have
generation_is : (t r : List ℕ) (x : ℕ) → x < issued t → ((view t r).slot_of x).generation ≡ (lane_at t x).key.generation
unfolding slot_at
generation_is t r x h = ap (λ (m : Slot). m.generation) (slot_in t r x h)

key_by_generation : (t u : List ℕ) (x : ℕ) → (lane_at u x).key.generation ≡ (lane_at t x).key.generation → (lane_at u x).key ≡ (lane_at t x).key
unfolding lane_at
key_by_generation t u x e = ap {A = ℕ} {B = LaneKey} (λ n. record { slot = x; generation = n }) e

-- what stands behind an entry of the queue
pub record QueuedLane (t : List ℕ) (x : ℕ) : Type 0 where
  pub is_issued : x < issued t
  -- the Rust's `lanes.get_mut(slot)` finds a lane there
  pub registered : (lane_at t x).registered ≡ 1
  pub queued : (lane_at t x).queued ≡ 1
  pub unpaused : (lane_at t x).paused ≡ 0
  -- it has one entry
  pub once : count x (queue_of t) ≡ 1

-- every entry of the queue, and so the front one, is of a registered lane
pub stale_never : (t r : List ℕ) → InOrderButHeld t r → (x : ℕ) → 1 ≤ count x (queue_of t) → QueuedLane t x
unfolding view slot_at
stale_never t r o x named =
    let h : x < issued t = o.stores.named.issued_only x named in
    let sees = slot_in t r x h in
    let slot = o.ordered.each_slot x in
    let here : (lane_at t x).registered ≡ 1 = eqb-true _ 1 (ap (λ (m : Slot). m.registered) (sym sees) ∙ slot.queued_registered named) in
    let going : flag (lane_at t x).paused ≡ false = ap (λ (m : Slot). m.paused) (sym sees) ∙ slot.queued_unpaused named in
    record {
      is_issued = h;
      registered = here;
      queued = omega (arith, o.stores.named.flagged x h here, o.stores.named.once x, named);
      unpaused = omega (arith, eqb-false (lane_at t x).paused 1 going, (o.stores.flags x h).paused_flag);
      once = omega (arith, o.stores.named.once x, named);
    }

-- a slot whose lane has gone has no entry: whatever retires or closes a lane takes it out of the queue
pub gone_unqueued : (t r : List ℕ) → InOrderButHeld t r → (x : ℕ) → ((lane_at t x).registered ≡ 1 → ⊥) → count x (queue_of t) ≡ 0
gone_unqueued t r o x gone = go (count x (queue_of t)) refl
  where
    go : (n : ℕ) → count x (queue_of t) ≡ n → n ≡ 0
    go zero e = refl
    go (suc n) e = absurd (gone (stale_never t r o x (omega arith)).registered)

-- after a targeted receive, which may queue its lane or take it out of the middle of the queue
pub stale_never_after_targeted : (t r : List ℕ) (i : LaneId) → StoreInOrder t r → (x : ℕ) → 1 ≤ count x (queue_of (try_recv_from t r i).1) → QueuedLane (try_recv_from t r i).1 x
stale_never_after_targeted t r i o x named = stale_never (try_recv_from t r i).1 (try_recv_from t r i).2 (try_recv_from_keeps t r i o) x named

-- ---- the key behind an entry

module _ (t r : List ℕ) (c : Call) (w : Words) (o : InOrderButHeld t r) (e : seen w ≡ (outcome (view t r) c).1) (x : ℕ) (named : 1 ≤ count x (queue_of t)) where
  state_after : view w.1 w.2 ≡ (outcome (view t r) c).1.1
  state_after = ap (λ (z : Answer × State). z.1) e

  still_issued : x < issued w.1
  unfolding view
  still_issued = omega (arith, ap (λ (s : State). s.issued) state_after, call_keeps_issued (view t r) c, (stale_never t r o x named).is_issued)

  -- The Rust's entry is its lane's key at the moment that the lane is queued. A call that does what the rules say leaves the key of a queued lane as it was, so
  -- an entry has its lane's key for as long as it stands in the queue. Each call's law `..-alike` is the premise `e`.
  pub queued_key_kept : (lane_at w.1 x).key ≡ (lane_at t x).key
  queued_key_kept =
      let k = stale_never t r o x named in
      key_by_generation t w.1 x
      (sym (generation_is w.1 w.2 x still_issued) ∙ ap (λ (s : State). (s.slot_of x).generation) state_after
      ∙ call_keeps_generation (view t r) c o.ordered x (registered_seen t r o.stores x k.is_issued k.registered) ∙ generation_is t r x k.is_issued)

-- ---- in the loops

-- what stands behind the front entry
pub record FrontLane (t : List ℕ) : Type 0 where
  pub is_issued : front_slot t < issued t
  pub registered : (lane_at t (front_slot t)).registered ≡ 1
  pub queued : (lane_at t (front_slot t)).queued ≡ 1
  -- it has one entry
  pub once : count (front_slot t) (queue_of t) ≡ 1

-- where a turn starts
pub stale_never_in_loop : (t : List ℕ) → Turning t → (queue_count t ≡ 0 → ⊥) → FrontLane t
unfolding count
stale_never_in_loop t k some =
    let h = front_issued t k some in
    let here = front_registered t k some in
    let once : count (front_slot t) (queue_of t) ≡ 1 = omega (arith, ap (count (front_slot t)) (queue_is t k some), same_self (front_slot t), front_alone t k some) in
    record { is_issued = h; registered = here; queued = k.names.flagged (front_slot t) h here ∙ once; once = once }

-- so also where the next starts, after a lane that left or retired
pub stale_never_next_turn : (t r : List ℕ) (fair : Bool) → Turning t → (queue_count (poll_front t r fair).1 ≡ 0 → ⊥) → FrontLane (poll_front t r fair).1
stale_never_next_turn t r fair k some = stale_never_in_loop (poll_front t r fair).1 (poll_front_turned t r fair k).keeps.turning some

pub stale_never_next_look : (t : List ℕ) → Turning t → (queue_count (look_front t).1 ≡ 0 → ⊥) → FrontLane (look_front t).1
stale_never_next_look t k some = stale_never_in_loop (look_front t).1 (look_front_looked t k).keeps.turning some
