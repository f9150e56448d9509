-- No inner call is refused for its stores: none of its refusals has number 5.
-- Assumes nothing.
use mathlib.Core.Path.{◌≡◌, refl, ap}
use mathlib.Core.Bool.{Bool, true, false, cond}
use mathlib.Core.List.{List, []}
use Prim.Native.Nat.{ℕ}
use borrow.Author.Tests.{eqb-false}
use lib.Dec.{eqb, leb, ltb}
use lib.ListN.{get_or}
use Rattle.model.specs.declared.LaneKey.{LaneKey}
use Rattle.model.specs.declared.LaneId.{LaneId}
use Rattle.model.specs.declared.SenderCall.{SenderCall}
use Rattle.model.specs.declared.SenderCall.TheVariants.{RegisterSender, TrySend, TrySendUnsignaled, DropSender}
use Rattle.model.specs.declared.ReceiveCall.{ReceiveCall}
use Rattle.model.specs.declared.ReceiveCall.TheVariants.{TryRecv, TryRecvFair, TryRecvFrom, TryRecvBatchInto, TryRecvBatchIntoWhile}
use Rattle.model.specs.declared.ControlCall.{ControlCall}
use Rattle.model.specs.declared.ControlCall.TheVariants.{Pause, Resume, CloseLane, ReleaseConsumed, PollAllLanes, CloseReceiver, CountHeld}
use Rattle.model.specs.declared.Call.{Call}
use Rattle.model.specs.declared.Call.TheVariants.{Sender, Receive, Control}
use Rattle.model.specs.declared.Refusal.{Refusal}
use Rattle.model.specs.declared.Answer.{Answer}
use Rattle.model.specs.declared.Answer.TheVariants.{Refused}
use Rattle.model.specs.Answers.{number, line}
use Rattle.model.specs.Runs.{accepted}
use Rattle.demands.proofs.Counting.{no}
use Rattle.lane.specs.declared.lane.Lane.{Lane}
use Rattle.lane.specs.declared.producer.Sent.{Sent}
use Rattle.lane.specs.Table.{lane_at}
use Rattle.queues.specs.Header.{issued, free_count, slots, alive, channel_id, opening_number, lane_count}
use Rattle.store.specs.Refusal.{Verdict}
use Rattle.std.specs.Prelude.{Ok, Err, Option, Some, None}
use Rattle.store.specs.Refusal.{sender_verdict, closed_verdict, receiver_verdict, lane_verdict, and_then, send_verdict, id_verdict}
use Rattle.store.specs.Words.{Words, unless_refused}
use Rattle.sender.specs.Sender.{send_signaled, take_signaled, send_unsignaled, try_send, try_send_unsignaled, drop_sender, capacity_verdict, lanes_verdict, slot_verdict, register_slot, register_sender, sender_words}
use Rattle.control.specs.Control.{pause, resume, close_lane, close_receiver}
use Rattle.all_lanes.specs.AllLanes.{release_consumed, poll_all_lanes, count_held}
use Rattle.control.specs.Calls.{control_words}
use Rattle.receive.specs.Receive.{try_recv, try_recv_fair}
use Rattle.receive_batch.specs.Batch.{room_verdict, batch_verdict, batch_words}
use Rattle.receive_from.specs.Target.{try_recv_from}
use Rattle.refinement.specs.Runs.{receive_words, call_words}
use Rattle.receive_while.specs.While.{while_words}
use Rattle.refinement.proofs.RefusedUnmoved.{answer_one_accepted, take_from_accepted, batch_accepted, while_accepted}

-- ---- verdicts

-- a verdict that is not refusal 5
data NotFive : Verdict → Type 0 where
  passed : NotFive (Ok tt)
  refused : (why : Refusal) → eqb (number why) 5 ≡ false → NotFive (Err why)

test : (b : Bool) {v w : Verdict} → NotFive v → NotFive w → NotFive (cond b v w)
test true p q = p
test false p q = q

and_then_lem : (v w : Verdict) → NotFive v → NotFive w → NotFive (and_then v w)
unfolding and_then
and_then_lem (Ok u) w p q = q
and_then_lem (Err why) w p q = p

module _ (t : List ℕ) where
  sender_verdict_lem : (k : LaneKey) → NotFive (sender_verdict t k)
  unfolding sender_verdict number
  sender_verdict_lem k =
      test (ltb k.slot (issued t))
      (test (eqb (lane_at t k.slot).living 1)
      (test (eqb (lane_at t k.slot).key.generation k.generation) passed (refused Refusal.NoSuchSender refl))
      (refused Refusal.NoSuchSender refl))
      (refused Refusal.NoSuchSender refl)

  closed_verdict_lem : (l : Lane) → NotFive (closed_verdict t l)
  unfolding closed_verdict number
  closed_verdict_lem l = test (eqb (alive t) 1) (test (eqb l.registered 1) passed (refused Refusal.LaneClosed refl)) (refused Refusal.LaneClosed refl)

  receiver_verdict_lem : NotFive (receiver_verdict t)
  unfolding receiver_verdict number
  receiver_verdict_lem = test (eqb (alive t) 1) passed (refused Refusal.ReceiverClosed refl)

  lane_verdict_lem : (i : LaneId) → NotFive (lane_verdict t i)
  unfolding lane_verdict number
  lane_verdict_lem i =
      test (eqb i.channel.id (channel_id t))
      (test (eqb i.channel.opening (opening_number t))
      (test (ltb i.key.slot (issued t))
      (test (eqb (lane_at t i.key.slot).registered 1)
      (test (eqb (lane_at t i.key.slot).key.generation i.key.generation) passed (refused Refusal.NoSuchLane refl))
      (refused Refusal.NoSuchLane refl))
      (refused Refusal.NoSuchLane refl))
      (refused Refusal.NoSuchLane refl))
      (refused Refusal.NoSuchLane refl)

  send_verdict_lem : (k : LaneKey) → NotFive (send_verdict t k)
  unfolding send_verdict
  send_verdict_lem k = and_then_lem _ _ (sender_verdict_lem k) (closed_verdict_lem _)

  id_verdict_lem : (i : LaneId) → NotFive (id_verdict t i)
  unfolding id_verdict
  id_verdict_lem i = and_then_lem _ _ receiver_verdict_lem (lane_verdict_lem i)

  lanes_verdict_lem : (most : ℕ) → NotFive (lanes_verdict t most)
  unfolding lanes_verdict capacity_verdict number
  lanes_verdict_lem most = and_then_lem (receiver_verdict t) _ receiver_verdict_lem (test (leb most (lane_count t)) (refused Refusal.AtCapacity refl) passed)

  slot_verdict_lem : (d : ℕ) → NotFive (slot_verdict t d)
  unfolding slot_verdict number
  slot_verdict_lem d =
      test (ltb d (free_count t)) passed
      (test (ltb (issued t) (slots t)) passed (test (eqb (free_count t) 0) (refused Refusal.NoFreeSlot refl) (refused Refusal.OlderSenderLives refl)))

  batch_verdict_lem : (limit room : ℕ) → NotFive (batch_verdict t limit room)
  unfolding batch_verdict room_verdict number
  batch_verdict_lem limit room = and_then_lem (receiver_verdict t) _ receiver_verdict_lem (test (ltb room limit) (refused Refusal.OutputShort refl) passed)

-- ---- calls

abbrev pub NotRefusedFive : Words → Type 0
NotRefusedFive w = w.0 ≡ Refused Refusal.StoreNotInOrder → ⊥

-- an answer that is no refusal
result : (w : Words) → accepted w.0 ≡ true → NotRefusedFive w
unfolding accepted
result w a e = no a (ap accepted e)

-- a refusal, by its number
another : (why : Refusal) → eqb (number why) 5 ≡ false → Refused why ≡ Refused Refusal.StoreNotInOrder → ⊥
unfolding line number
another why n e = eqb-false _ _ n (ap (λ (a : Answer). get_or (line a []).numbers 0 0) e)

module _ (t r : List ℕ) where
  unless : {v : Verdict} → NotFive v → (w : Words) → NotRefusedFive w → NotRefusedFive (unless_refused v t r w)
  unfolding unless_refused
  unless passed w o = o
  unless (refused why n) w o = another why n

  unless_result : {v : Verdict} → NotFive v → (w : Words) → accepted w.0 ≡ true → NotRefusedFive (unless_refused v t r w)
  unless_result n w a = unless n w (result w a)

  sent : (s : Option Sent × List ℕ) → NotRefusedFive (send_signaled t s)
  unfolding send_signaled take_signaled accepted number
  sent (Some s, u) = λ e. no refl (ap accepted e)
  sent (None, u) = another Refusal.Full refl

  sent_unsignaled : (s : Option Sent × List ℕ) → NotRefusedFive (send_unsignaled t s)
  unfolding send_unsignaled accepted number
  sent_unsignaled (Some s, u) = λ e. no refl (ap accepted e)
  sent_unsignaled (None, u) = another Refusal.Full refl

  sender_never : (c : SenderCall) → NotRefusedFive (sender_words t r c)
  unfolding sender_words register_sender register_slot try_send try_send_unsignaled drop_sender accepted
  sender_never (RegisterSender most) = unless (lanes_verdict_lem t most) _ (unless_result (slot_verdict_lem t _) _ refl)
  sender_never (TrySend k v) = unless (send_verdict_lem t k) _ (sent _)
  sender_never (TrySendUnsignaled k v) = unless (send_verdict_lem t k) _ (sent_unsignaled _)
  sender_never (DropSender k) = unless_result (sender_verdict_lem t k) _ refl

  control_never : (c : ControlCall) → NotRefusedFive (control_words t r c)
  unfolding control_words pause resume close_lane release_consumed poll_all_lanes close_receiver count_held accepted
  control_never (Pause i) = unless_result (id_verdict_lem t i) _ refl
  control_never (Resume i) = unless_result (id_verdict_lem t i) _ refl
  control_never (CloseLane i) = unless_result (id_verdict_lem t i) _ refl
  control_never ReleaseConsumed = unless_result (receiver_verdict_lem t) _ refl
  control_never PollAllLanes = unless_result (receiver_verdict_lem t) _ refl
  control_never CloseReceiver = unless_result (receiver_verdict_lem t) _ refl
  control_never CountHeld = result (count_held t r) refl

  receive_never : (c : ReceiveCall) → NotRefusedFive (receive_words t r c)
  unfolding receive_words try_recv try_recv_fair try_recv_from batch_words while_words
  receive_never TryRecv = unless_result (receiver_verdict_lem t) _ (answer_one_accepted _ _)
  receive_never TryRecvFair = unless_result (receiver_verdict_lem t) _ (answer_one_accepted _ _)
  receive_never (TryRecvFrom i) = unless_result (id_verdict_lem t i) _ (take_from_accepted t r _)
  receive_never (TryRecvBatchInto limit room) = unless_result (batch_verdict_lem t limit room) _ (batch_accepted t r limit)
  receive_never (TryRecvBatchIntoWhile limit bound room) = unless_result (batch_verdict_lem t limit room) _ (while_accepted t r limit bound)

  pub never_five : (c : Call) → NotRefusedFive (call_words t r c)
  unfolding call_words
  never_five (Sender c) = sender_never c
  never_five (Receive c) = receive_never c
  never_five (Control c) = control_never c
