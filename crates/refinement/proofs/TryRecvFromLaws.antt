-- The targeted receive does what the rules say, and leaves a store in order.
-- Assumes nothing.
use Rattle.std.specs.Prelude.{Ok, Err}
use mathlib.Core.Path.{◌≡◌, refl, sym, ap, ap₂, ◌∙◌, subst}
use mathlib.Core.Bool.{Bool, true, false, cond, not}
use mathlib.Core.List.{List, []}
use Prim.Native.Nat.{ℕ, ◌<◌}
use lib.Dec.{eqb}
use Rattle.model.specs.declared.LaneKey.{LaneKey}
use Rattle.model.specs.declared.LaneId.{LaneId}
use Rattle.model.specs.declared.ReceiveCall.TheVariants.{TryRecvFrom}
use Rattle.model.specs.declared.Call.TheVariants.{Receive}
use Rattle.model.specs.declared.Answer.{Answer}
use Rattle.model.specs.declared.Answer.TheVariants.{Item, Empty, Disconnected}
use Rattle.model.specs.Lists as lists
use Rattle.model.specs.Lists.{if}
use Rattle.model.specs.State.{Slot, State, key_of}
use Rattle.model.specs.Changes.{with_queue, put, settled_empty}
use Rattle.model.specs.Receive as rules
use Rattle.model.specs.Rules.{outcome}
use Rattle.demands.proofs.Counting.{without_own, without_other}
use Rattle.lane.specs.declared.lane.Lane.{Lane}
use Rattle.lane.specs.declared.lane.EmptyLane.{EmptyLane}
use Rattle.lane.specs.Lane.{settle_empty, refill, ready_or_idle, pop_targeted}
use Rattle.yring.specs.Ring.{new_ring}
use Rattle.lane.specs.Table.{head, lane_at, put_lane}
use Rattle.lane.proofs.TableLaws.{frames}
use Rattle.queues.specs.Header.{issued, slots, free_count, capacity, channel}
use Rattle.queues.specs.Queue.{queue_of, remove}
use Rattle.queues.proofs.QueueLaws.{queue_frames, shaped_put_lane}
use Rattle.store.specs.View.{slot_at, view}
use Rattle.store.specs.Order.{Stores, InOrderButHeld, StoreInOrder, but_held}
use Rattle.store.specs.Refusal.{id_verdict}
use Rattle.turns.specs.Turn.{retire_if}
use Rattle.store.specs.Words.{with_rings}
use Rattle.receive_from.specs.Target.{settle_target, keep_target, target_took, take_from, try_recv_from}
use Rattle.store.proofs.ViewLaws.{slot_in, view_removed, view_held_count}
use Rattle.store.proofs.HeldLaws.{stores_held_count}
use Rattle.store.proofs.RefusalLaws.{seen, id_verdict_lem, id_passes, refused_alike, unless_refused_case}
use Rattle.store.proofs.StepLaws.{Step, step_start, step_put_lane, step_removed}
use Rattle.store.proofs.StoreLaws.{room_in_free, but_held_after, windows_without}
use Rattle.store.proofs.LaneFields.{Flagged, flagged_reload}
use Rattle.store.proofs.LaneView.{looked}
use Rattle.refinement.proofs.EmptyLaneLaws.{Empties, empties_by_refill}
use Rattle.refinement.proofs.FoundEmptyLaws.{found_slot, found_narrow, found_view, found_dropped, settled_view, settled_in_order}
use Rattle.refinement.proofs.TargetTookLaws.{target_lane, target_takes, target_view, target_stores}

-- ---- a lane found empty: it settles and leaves the queue

module _ (t r : List ℕ) (o : StoreInOrder t r) (x : ℕ) (h : x < issued t) (g : (lane_at t x).registered ≡ 1) (found : EmptyLane) (k : Empties t r x found) where
  abbrev l : Lane
  l = found.lane

  -- the table before the lane may retire, and the queue
  abbrev left : List ℕ
  left = remove (put_lane t l) x

  abbrev rest : List ℕ
  rest = lists.without x (queue_of t)

  step_left : Step t left x l rest (head t)
  step_left = step_removed (step_put_lane (step_start t r o.stores x) l (found_slot t r (but_held o) x h g found k) (found_narrow t r (but_held o) x h g found k) h) x

  room : free_count left < slots left
  room = simp (queue_frames, frames) (room_in_free t r o.stores x h g o.ordered)

  view_left : view left r ≡ with_queue rest (put x (settled_empty ((view t r).slot_of x)) (view t r))
  unfolding view
  view_left =
      view_removed (put_lane t l) r (shaped_put_lane t o.stores.shaped l) x
      ∙ ap (λ (s : State). with_queue (lists.without x s.queue) s) (found_view t r (but_held o) x h g found k)

  settled_is : settle_target t found ≡ (cond found.disconnected Disconnected Empty, retire_if found.disconnected left l)
  unfolding settle_target
  settled_is =
      ap (λ (y : ℕ). (cond found.disconnected Disconnected Empty, retire_if found.disconnected (remove (put_lane t l) y) l)) (found_slot t r (but_held o) x h g found k)

  answer_settled : cond found.disconnected Disconnected Empty ≡ if ((view t r).slot_of x).living Empty Disconnected
  answer_settled = ap (λ (b : Bool). cond b Disconnected Empty) (found_dropped t r (but_held o) x h g found k) ∙ go ((view t r).slot_of x).living
    where
      go : (b : Bool) → cond (not b) Disconnected Empty ≡ if b Empty Disconnected
      go true = refl
      go false = refl

  holds_none : ((view t r).slot_of x).ring ≡ []
  unfolding slot_at
  holds_none = ap (λ (m : Slot). m.ring) (slot_in t r x h) ∙ k.idle.holds_none

  settled_alike : seen (with_rings r (settle_target t found)) ≡ (rules.take_from ((view t r).slot_of x).ring x (view t r)).1
  unfolding rules.take_from view
  settled_alike =
      ap (λ (w : Answer × List ℕ). seen (with_rings r w)) settled_is
      ∙ ap₂ (λ (a : Answer) (s : State). (a, s)) answer_settled
      (settled_view t r (but_held o) x h g found k left rest step_left room view_left (without_own x (queue_of t)) (λ y. without_other x y (queue_of t)) (windows_without t r o.stores x))
      ∙ ap (λ (vs : List ℕ). (rules.take_from vs x (view t r)).1) (sym holds_none)

  settled_kept : Stores (settle_target t found).1 r
  settled_kept =
      subst (λ (w : Answer × List ℕ). Stores w.1 r) (sym settled_is)
      (settled_in_order t r (but_held o) x h g found k left rest step_left room view_left (without_own x (queue_of t)) (λ y. without_other x y (queue_of t)) (windows_without t r o.stores x)).stores

-- ---- a lane with an item, or without

module _ (t r : List ℕ) (o : StoreInOrder t r) (x : ℕ) (h : x < issued t) (g : (lane_at t x).registered ≡ 1) where
  abbrev old : Lane
  old = lane_at t x

  -- the lane's key, as the rules have it
  same_key : (looked old).key ≡ key_of (view t r) x
  unfolding slot_at lane_at
  same_key =
      ap (λ (z : Flagged). z.0) (flagged_reload _)
      ∙ ap {A = ℕ} {B = LaneKey} (λ n. record { slot = x; generation = n }) (sym (ap (λ (m : Slot). m.generation) (slot_in t r x h)))

  empties : eqb (looked old).cached 0 ≡ true → Empties t r x (settle_empty (looked old))
  unfolding refill ready_or_idle
  empties e = empties_by_refill t r o.stores x h g (settle_empty (looked old)) (rw e)

  took_alike : eqb (looked old).cached 0 ≡ false
      → seen (with_rings r (target_took t r x (Ok (looked old)))) ≡ (rules.take_from ((view t r).slot_of x).ring x (view t r)).1
  unfolding target_took rules.take_from view
  took_alike e =
      ap₂ (λ (k : LaneKey) (s : State). (Item (pop_targeted (new_ring x (capacity t)) r (looked old)).item (record { channel = channel t; key = k }), s)) same_key
      (view_held_count (keep_target t (target_lane t r x)) r (target_stores t r o x h g e).shaped _ ∙ target_view t r o x h g e)
      ∙ ap (λ (vs : List ℕ). (rules.take_from vs x (view t r)).1) (sym (target_takes t r o x h g e))

  take_from_alike : seen (with_rings r (take_from t r x)) ≡ (rules.take_from ((view t r).slot_of x).ring x (view t r)).1
  unfolding take_from refill ready_or_idle target_took
  take_from_alike = go (eqb (looked old).cached 0) refl
    where
      go : (b : Bool) → eqb (looked old).cached 0 ≡ b
          → seen (with_rings r (target_took t r x (cond b (Err (settle_empty (looked old))) (Ok (looked old))))) ≡ (rules.take_from ((view t r).slot_of x).ring x (view t r)).1
      go true e = settled_alike t r o x h g (settle_empty (looked old)) (empties e)
      go false e = took_alike e

  take_from_stores : Stores (take_from t r x).1 r
  unfolding take_from refill ready_or_idle target_took
  take_from_stores = go (eqb (looked old).cached 0) refl
    where
      go : (b : Bool) → eqb (looked old).cached 0 ≡ b → Stores (target_took t r x (cond b (Err (settle_empty (looked old))) (Ok (looked old)))).1 r
      go true e = settled_kept t r o x h g (settle_empty (looked old)) (empties e)
      go false e = stores_held_count _ r _ (target_stores t r o x h g e)

-- ---- the call

module _ (t r : List ℕ) (i : LaneId) (o : StoreInOrder t r) where
  -- it does what the rules say, and answers as they do
  pub try_recv_from_alike : seen (try_recv_from t r i) ≡ (rules.try_recv_from (view t r) i).1
  unfolding try_recv_from rules.try_recv_from
  try_recv_from_alike =
      refused_alike (id_verdict t i) _ t r (with_rings r (take_from t r i.key.slot)) (rules.take_from ((view t r).slot_of i.key.slot).ring i.key.slot (view t r)) (id_verdict_lem t r i)
      (λ e. let k = (id_passes t i e).1 in take_from_alike t r o i.key.slot k.is_issued k.registered)

  try_recv_from_stores : Stores (try_recv_from t r i).1 (try_recv_from t r i).2
  unfolding try_recv_from
  try_recv_from_stores =
      unless_refused_case (λ w. Stores w.1 w.2) (id_verdict t i) t r (with_rings r (take_from t r i.key.slot)) (λ why e. o.stores)
      (λ e. let k = (id_passes t i e).1 in take_from_stores t r o i.key.slot k.is_issued k.registered)

  pub try_recv_from_keeps : InOrderButHeld (try_recv_from t r i).1 (try_recv_from t r i).2
  unfolding outcome rules.receive_outcome
  try_recv_from_keeps = but_held_after t r (Receive (TryRecvFrom i)) (try_recv_from t r i) (but_held o) try_recv_from_alike try_recv_from_stores
