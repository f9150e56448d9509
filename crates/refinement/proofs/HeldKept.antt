-- What each call does to the held count's word: the item that it sends is added, those that it hands out and those that it discards are taken off.
-- Assumes nothing.
use mathlib.Core.Path.{◌≡◌, refl, sym, ap, ◌∙◌}
use mathlib.Core.Bool.{Bool, true, false, cond}
use mathlib.Core.List.{List, []}
use Prim.Native.Nat.{ℕ, ◌+◌, ◌≤◌, ◌<◌}
use native.Mathlib.Omega.{arith}
use borrow.Author.Tests.{eqb-true}
use lib.Dec.{eqb}
use lib.ListN.{length}
use Rattle.model.specs.declared.LaneKey.{LaneKey}
use Rattle.model.specs.declared.LaneId.{LaneId}
use Rattle.model.specs.declared.OpenedChannel.{OpenedChannel}
use Rattle.model.specs.declared.SenderCall.{SenderCall}
use Rattle.model.specs.declared.SenderCall.TheVariants.{RegisterSender, TrySend, TrySendUnsignaled, DropSender}
use Rattle.model.specs.declared.ReceiveCall.{ReceiveCall}
use Rattle.model.specs.declared.ReceiveCall.TheVariants.{TryRecv, TryRecvFair, TryRecvFrom, TryRecvBatchInto, TryRecvBatchIntoWhile}
use Rattle.model.specs.declared.ControlCall.{ControlCall}
use Rattle.model.specs.declared.ControlCall.TheVariants.{Pause, Resume, CloseLane, ReleaseConsumed, PollAllLanes, CloseReceiver, CountHeld}
use Rattle.model.specs.declared.Call.{Call}
use Rattle.model.specs.declared.Call.TheVariants.{Sender, Receive, Control}
use Rattle.model.specs.declared.Answer.{Answer}
use Rattle.model.specs.declared.Answer.TheVariants.{Done, Taken, Empty, Disconnected, Items, Stopped, Refused}
use Rattle.model.specs.State.{Slot}
use Rattle.model.specs.Runs.{accepted}
use Rattle.model.specs.Receive.{receive_outcome}
use Rattle.model.specs.HeldCalls.{items_sent, items_discarded}
use Rattle.model.specs.Rules.{outcome}
use Rattle.demands.proofs.HeldCalls.{sender_hands, control_hands}
use Rattle.lane.specs.declared.lane.EmptyLane.{EmptyLane}
use Rattle.lane.specs.declared.producer.Sent.{Sent}
use Rattle.yring.specs.Cursor.{after, distance}
use Rattle.yring.specs.Ring.{new_ring}
use Rattle.lane.specs.Lane.{held_items, refill, pop_targeted}
use Rattle.lane.specs.Table.{lane_at, put_lane}
use Rattle.lane.proofs.OrderLaws.{cond_holds}
use Rattle.yring.proofs.RingLaws.{length_items}
use Rattle.queues.specs.Header.{Shaped, issued, alive, capacity, channel, living_count, lane_count, held_count, held_more, held_less}
use Rattle.queues.specs.Queue.{remove}
use Rattle.store.specs.Refusal.{Verdict}
use Rattle.std.specs.Prelude.{Ok, Err, Option, Some, None, Result}
use Rattle.store.specs.View.{slot_at, view}
use Rattle.store.specs.Order.{StoreInOrder}
use Rattle.store.specs.Refusal.{receiver_verdict, send_verdict, id_verdict}
use Rattle.store.specs.Registry.{retire_lane}
use Rattle.store.specs.Words.{Words, unless_refused, with_rings}
use Rattle.turns.specs.declared.turn.Took.{Took}
use Rattle.turns.specs.Drained.{retire_empty_paused_lanes, empty_or_drained, nothing_taken}
use Rattle.sender.specs.Sender.{take_signaled, send_signaled, send_unsignaled, pushed, try_send, try_send_unsignaled, drop_sender, register_slot, register_sender, sender_words}
use Rattle.all_lanes.specs.AllLanes.{release_all, release_consumed, poll_all_lanes, count_held}
use Rattle.control.specs.Control.{pause, resume, close, close_lane, close_receiver}
use Rattle.control.specs.Calls.{control_words}
use Rattle.receive.specs.Receive.{take_one, take_fair, answer_one, try_recv, try_recv_fair}
use Rattle.receive_from.specs.Target.{settle_target, target_took, take_from, try_recv_from}
use Rattle.receive_batch.specs.Batch.{drained, batch_verdict, answer_items, batch_answer, batch_words, handed_by, batch_hands}
use Rattle.receive_while.specs.declared.batch_while.Drained.{Drained}
use Rattle.receive_while.specs.While.{drained_while, answer_while, while_answer, while_words, while_hands}
use Rattle.refinement.specs.Hands.{hands_of}
use Rattle.refinement.specs.Runs.{receive_words, hands_words}
use Rattle.store.proofs.HeaderWords.{place_of, Beside, beside}
use Rattle.store.proofs.ViewLaws.{slot_in}
use Rattle.store.proofs.RefusalLaws.{id_passes, unless_refused_case}
use Rattle.store.proofs.HeldLaws.{held_count_set, held_count_most, HeldMoved}
use Rattle.refinement.proofs.HeaderSteps.{parts_write, At, at_put, at_head, unless_at, registered_at, take_signaled_at, dropped_at, at_release_all, at_poll_all, paused_at, resumed_at, gone_at}
use Rattle.refinement.proofs.HeaderKept.{kept_now, holds_now, take_one_leaves, take_fair_leaves, at_nothing, at_settled, at_kept, at_released, at_while_released}
use Rattle.lane.specs.declared.lane.Lane.{Lane}

-- ---- answers that hand out nothing

nothing_hands : (u : List ℕ) → hands_of (nothing_taken u).0 ≡ []
unfolding nothing_taken empty_or_drained hands_of
nothing_hands u = go (eqb (living_count u) 0) (eqb (lane_count (retire_empty_paused_lanes u)) 0)
  where
    go : (a b : Bool) → hands_of (cond {A = Answer × List ℕ} a (cond b Disconnected Empty, retire_empty_paused_lanes u) (Empty, u)).0 ≡ []
    go true true = refl
    go true false = refl
    go false b = refl

settled_hands : (t : List ℕ) (found : EmptyLane) → hands_of (settle_target t found).0 ≡ []
unfolding settle_target hands_of
settled_hands t found = go found.disconnected
  where
    go : (b : Bool) → hands_of (cond b Disconnected Empty) ≡ []
    go true = refl
    go false = refl

-- ---- the word

-- no part of a call writes it
between : Beside parts_write (place_of held_count)
between = beside refl refl

module _ (t : List ℕ) where
  -- the word as a call finds it
  abbrev Found : List ℕ → Type 0
  Found u = At (kept_now between t) u

  here : Found t
  here = holds_now between t

module _ (t r : List ℕ) (o : StoreInOrder t r) where
  abbrev H : ℕ
  H = held_count t

  below : H ≤ 536870912
  below = held_count_most t r o

  -- a call that sends nothing
  takes : (c : Call) (w : Words) (n : ℕ) → items_sent c w.0 ≡ 0 → length (outcome (view t r) c).0 + items_discarded (view t r) c w.0 ≡ n → held_count w.1 ≡ distance H n
      → HeldMoved t r c w
  takes c w n a b e = omega (arith, e, a, b, below)

  none_off : (u : List ℕ) → Found t u → held_count u ≡ distance H 0
  none_off u f = omega (arith, f.holds, below)

  -- a call that neither sends nor hands out nor closes a lane
  quiet : (c : Call) (w : Words) → items_sent c w.0 ≡ 0 → length (outcome (view t r) c).0 ≡ 0 → items_discarded (view t r) c w.0 ≡ 0 → Found t w.1 → HeldMoved t r c w
  quiet c w a b d f = takes c w 0 a (omega arith) (none_off w.1 f)

  -- ---- sender calls

  sender_none : (s : SenderCall) → length (outcome (view t r) (Sender s)).0 ≡ 0
  unfolding outcome
  sender_none s = ap length (sender_hands (view t r) s)

  quiet_sender : (s : SenderCall) → items_sent (Sender s) (sender_words t r s).0 ≡ 0 → Found t (sender_words t r s).1 → HeldMoved t r (Sender s) (sender_words t r s)
  unfolding items_discarded
  quiet_sender s e f = quiet (Sender s) (sender_words t r s) e (sender_none s) refl f

  -- an item is taken: one more
  sent_one : (c : Call) (a : Answer) (u q : List ℕ) → items_sent c a ≡ 1 → length (outcome (view t r) c).0 ≡ 0 → items_discarded (view t r) c a ≡ 0 → Found t u → Shaped (held_more u)
      → HeldMoved t r c (a, held_more u, q)
  sent_one c a u q e b d f g = omega (arith, held_count_set u (after (held_count u) 1) g, f.holds, e, b, d, below)

  module _ (k : LaneKey) (v : ℕ) where
    signaled_held : (s : Option Sent × List ℕ) → Shaped (send_signaled t s).1 → HeldMoved t r (Sender (TrySend k v)) (send_signaled t s)
    unfolding send_signaled take_signaled items_sent items_discarded accepted
    signaled_held (Some s, q) g = sent_one (Sender (TrySend k v)) (take_signaled t s.lane s.free).0 (take_signaled t s.lane s.free).1 q refl (sender_none (TrySend k v)) refl (take_signaled_at t (here t) s.lane s.free) g
    signaled_held (None, q) g = quiet (Sender (TrySend k v)) (send_signaled t (None, q)) refl (sender_none (TrySend k v)) refl (here t)

    unsignaled_held : (s : Option Sent × List ℕ) → Shaped (send_unsignaled t s).1 → HeldMoved t r (Sender (TrySendUnsignaled k v)) (send_unsignaled t s)
    unfolding send_unsignaled items_sent items_discarded accepted
    unsignaled_held (Some s, q) g = sent_one (Sender (TrySendUnsignaled k v)) (Taken false s.free) (put_lane t s.lane) q refl (sender_none (TrySendUnsignaled k v)) refl (at_put t (here t) s.lane) g
    unsignaled_held (None, q) g = quiet (Sender (TrySendUnsignaled k v)) (send_unsignaled t (None, q)) refl (sender_none (TrySendUnsignaled k v)) refl (here t)

  pub sender_held : (s : SenderCall) → Shaped (sender_words t r s).1 → HeldMoved t r (Sender s) (sender_words t r s)
  unfolding sender_words register_sender register_slot try_send try_send_unsignaled drop_sender items_sent items_discarded accepted
  sender_held (RegisterSender most) g =
      quiet_sender (RegisterSender most) refl (unless_at t (here t) _ r _ (unless_at t (here t) _ r _ (registered_at t (here t) _ _)))
  sender_held (TrySend k v) g =
      unless_refused_case (λ w. Shaped w.1 → HeldMoved t r (Sender (TrySend k v)) w) (send_verdict t k) t r (send_signaled t (pushed t r k v))
      (λ why e f. quiet (Sender (TrySend k v)) (Refused why, t, r) refl (sender_none (TrySend k v)) refl (here t)) (λ e. signaled_held k v (pushed t r k v)) g
  sender_held (TrySendUnsignaled k v) g =
      unless_refused_case (λ w. Shaped w.1 → HeldMoved t r (Sender (TrySendUnsignaled k v)) w) (send_verdict t k) t r (send_unsignaled t (pushed t r k v))
      (λ why e f. quiet (Sender (TrySendUnsignaled k v)) (Refused why, t, r) refl (sender_none (TrySendUnsignaled k v)) refl (here t)) (λ e. unsignaled_held k v (pushed t r k v)) g
  sender_held (DropSender k) g = quiet_sender (DropSender k) refl (unless_at t (here t) _ r _ (dropped_at t (here t) (lane_at t k.slot)))

  -- ---- control calls

  control_none : (s : ControlCall) → length (outcome (view t r) (Control s)).0 ≡ 0
  unfolding outcome
  control_none s = ap length (control_hands (view t r) s)

  quiet_control : (s : ControlCall) → items_discarded (view t r) (Control s) (control_words t r s).0 ≡ 0 → Found t (control_words t r s).1 → HeldMoved t r (Control s) (control_words t r s)
  unfolding items_sent
  quiet_control s e f = quiet (Control s) (control_words t r s) refl (control_none s) e f

  -- the items of a lane's ring
  ring_length : (x : ℕ) → x < issued t → length ((view t r).slot_of x).ring ≡ distance (lane_at t x).tail (lane_at t x).head
  unfolding slot_at held_items
  ring_length x h = ap (λ (m : Slot). length m.ring) (slot_in t r x h) ∙ length_items (new_ring x (capacity t)) r (lane_at t x).head _

  closed_held : (i : LaneId) → i.key.slot < issued t → let w : Words = (Done, close t (lane_at t i.key.slot), r) in Shaped w.1 → HeldMoved t r (Control (CloseLane i)) w
  unfolding close items_sent items_discarded accepted
  closed_held i h g =
      let l = lane_at t i.key.slot in
      let u : List ℕ = retire_lane (remove t l.key.slot) l in
      let n : ℕ = distance l.tail l.head in
      takes (Control (CloseLane i)) (Done, close t l, r) n refl (omega (arith, control_none (CloseLane i), ring_length i.key.slot h))
      (held_count_set u (distance (held_count u) n) g ∙ ap (λ (m : ℕ). distance m n) (gone_at t (here t) l).holds)

  pub control_held : (s : ControlCall) → Shaped (control_words t r s).1 → HeldMoved t r (Control s) (control_words t r s)
  unfolding control_words pause resume close_lane release_consumed poll_all_lanes close_receiver count_held items_sent items_discarded accepted
  control_held (Pause i) g = quiet_control (Pause i) refl (unless_at t (here t) _ r _ (paused_at t (here t) (lane_at t i.key.slot)))
  control_held (Resume i) g = quiet_control (Resume i) refl (unless_at t (here t) _ r _ (resumed_at t (here t) (lane_at t i.key.slot)))
  control_held (CloseLane i) g =
      unless_refused_case (λ w. Shaped w.1 → HeldMoved t r (Control (CloseLane i)) w) (id_verdict t i) t r (Done, close t (lane_at t i.key.slot), r)
      (λ why e f. quiet (Control (CloseLane i)) (Refused why, t, r) refl (control_none (CloseLane i)) refl (here t)) (λ e. closed_held i (id_passes t i e).1.is_issued) g
  control_held ReleaseConsumed g = quiet_control ReleaseConsumed refl (unless_at t (here t) _ r _ (at_release_all t (here t)))
  control_held PollAllLanes g = quiet_control PollAllLanes refl (unless_at t (here t) _ r _ (at_poll_all t (here t)))
  control_held CloseReceiver g = quiet_control CloseReceiver refl (unless_at t (here t) _ r _ (at_head t (here t) (place_of alive) 0 refl))
  control_held CountHeld g = quiet_control CountHeld refl (here t)

  -- ---- receives: the word is less by the items handed out

  -- so many items off a table that has the word as the call found it
  less : (u : List ℕ) (n : ℕ) → Found t u → Shaped (held_less u n) → held_count (held_less u n) ≡ distance H n
  less u n f g = held_count_set u (distance (held_count u) n) g ∙ ap (λ (m : ℕ). distance m n) f.holds

  -- an answer and a table after a single receive
  abbrev LessByAnswer : Answer × List ℕ → Type 0
  LessByAnswer w = Shaped w.1 → held_count w.1 ≡ distance H (length (hands_of w.0))

  nothing_less : (u : List ℕ) → Found t u → LessByAnswer (nothing_taken u)
  nothing_less u f g = none_off (nothing_taken u).1 (at_nothing u f) ∙ ap (λ (l : List (LaneKey × ℕ)). distance H (length l)) (sym (nothing_hands u))

  answer_less : (channel : OpenedChannel) (took : Option Took × List ℕ) → Found t took.1 → LessByAnswer (answer_one channel took)
  unfolding answer_one hands_of
  answer_less channel (Some took, u) f g = less u 1 f g
  answer_less channel (None, u) f g = nothing_less u f g

  target_less : (x : ℕ) (p : Result Lane EmptyLane) → LessByAnswer (target_took t r x p)
  unfolding target_took hands_of
  target_less x (Err e) g =
      none_off (settle_target t e).1 (at_settled t (here t) e) ∙ ap (λ (l : List (LaneKey × ℕ)). distance H (length l)) (sym (settled_hands t e))
  target_less x (Ok l) g = less _ 1 (at_kept t (here t) (pop_targeted (new_ring x (capacity t)) r l).lane) g

  -- a single receive that may be refused
  single_less : (v : Verdict) (w : Answer × List ℕ) → LessByAnswer w → let z = unless_refused v t r (with_rings r w) in LessByAnswer (z.0, z.1)
  unfolding unless_refused hands_of
  single_less (Ok u) w k g = k g
  single_less (Err why) w k g = none_off t (here t)

  items_less : (limit n : ℕ) (u : List ℕ) → Found t u → Shaped (answer_items limit n u).1 → held_count (answer_items limit n u).1 ≡ distance H n
  unfolding answer_items
  items_less limit n u f =
      cond_holds Less (eqb n 0) _ (Items n, held_less u n)
      (λ e. cond_holds Less (eqb limit 0) (Items 0, u) (nothing_taken u) (λ d g. omega (arith, none_off u f, eqb-true n 0 e)) (λ d g. omega (arith, none_off (nothing_taken u).1 (at_nothing u f), eqb-true n 0 e)))
      (λ e. less u n f)
    where
      Less : Answer × List ℕ → Type 0
      Less w = Shaped w.1 → held_count w.1 ≡ distance H n

  while_less : (limit : ℕ) (m : Drained) (u : List ℕ) → Found t u → Shaped (answer_while limit m u).1 → held_count (answer_while limit m u).1 ≡ distance H m.received
  unfolding answer_while
  while_less limit m u f =
      cond_holds Less m.rejected (Stopped m.received, held_less u m.received) (answer_items limit m.received u)
      (λ e. less u m.received f) (λ e. items_less limit m.received u f)
    where
      Less : Answer × List ℕ → Type 0
      Less w = Shaped w.1 → held_count w.1 ≡ distance H m.received

  -- a batch that may be refused
  batch_less : (v : Verdict) (w : Answer × List ℕ) (l : List (LaneKey × ℕ)) → (Shaped w.1 → held_count w.1 ≡ distance H (length l))
      → let z = unless_refused v t r (with_rings r w) in Shaped z.1 → held_count z.1 ≡ distance H (length (handed_by v l))
  unfolding unless_refused handed_by
  batch_less (Ok u) w l k g = k g
  batch_less (Err why) w l k g = none_off t (here t)

  receive_less : (c : ReceiveCall) → Shaped (receive_words t r c).1 → held_count (receive_words t r c).1 ≡ distance H (length (hands_words t r c))
  unfolding receive_words hands_words try_recv try_recv_fair try_recv_from take_from batch_words batch_answer batch_hands while_words while_answer while_hands
  receive_less TryRecv g = single_less (receiver_verdict t) (answer_one (channel t) (take_one t r)) (answer_less (channel t) (take_one t r) (record { holds = take_one_leaves between t r })) g
  receive_less TryRecvFair g = single_less (receiver_verdict t) (answer_one (channel t) (take_fair t r)) (answer_less (channel t) (take_fair t r) (record { holds = take_fair_leaves between t r })) g
  receive_less (TryRecvFrom i) g =
      single_less (id_verdict t i) (target_took t r i.key.slot (refill (lane_at t i.key.slot))) (target_less i.key.slot (refill (lane_at t i.key.slot))) g
  receive_less (TryRecvBatchInto limit room) g =
      let d = drained t r limit in
      batch_less (batch_verdict t limit room) (answer_items limit (length d.0) (release_all d.1)) d.0 (items_less limit (length d.0) (release_all d.1) (at_released t r limit (here t))) g
  receive_less (TryRecvBatchIntoWhile limit bound room) g =
      let d = drained_while t r limit bound in
      let m : Drained = record { received = length d.1.0; rejected = d.0 } in
      batch_less (batch_verdict t limit room) (answer_while limit m (release_all d.1.1)) d.1.0 (while_less limit m (release_all d.1.1) (at_while_released t r limit bound (here t))) g

  pub receive_held : (c : ReceiveCall) → hands_words t r c ≡ (receive_outcome (view t r) c).0 → Shaped (receive_words t r c).1 → HeldMoved t r (Receive c) (receive_words t r c)
  unfolding outcome items_sent items_discarded
  receive_held c e g = takes (Receive c) (receive_words t r c) (length (hands_words t r c)) refl (omega (arith, ap length e)) (receive_less c g)
