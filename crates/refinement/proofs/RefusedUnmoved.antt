-- A refused call leaves every word of the two stores as it was, whatever they hold.
-- Assumes nothing.
use mathlib.Core.Path.{◌≡◌, refl, ap}
use mathlib.Core.Bool.{Bool, true, false, cond}
use mathlib.Core.List.{List}
use Prim.Native.Nat.{ℕ}
use lib.Dec.{eqb}
use lib.ListN.{length}
use Rattle.model.specs.declared.OpenedChannel.{OpenedChannel}
use Rattle.model.specs.declared.LaneKey.{LaneKey}
use Rattle.model.specs.declared.LaneId.{LaneId}
use Rattle.model.specs.declared.Opening.{Opening}
use Rattle.model.specs.declared.SenderCall.{SenderCall}
use Rattle.model.specs.declared.SenderCall.TheVariants.{RegisterSender, TrySend, TrySendUnsignaled, DropSender}
use Rattle.model.specs.declared.ControlCall.{ControlCall}
use Rattle.model.specs.declared.ControlCall.TheVariants.{Pause, Resume, CloseLane, ReleaseConsumed, PollAllLanes, CloseReceiver, CountHeld}
use Rattle.model.specs.declared.Refusal.{Refusal}
use Rattle.model.specs.declared.Answer.{Answer}
use Rattle.model.specs.declared.Answer.TheVariants.{Items, Stopped, Empty, Disconnected, Refused}
use Rattle.model.specs.Receive.{written_to}
use Rattle.model.specs.Runs.{accepted}
use Rattle.demands.proofs.Counting.{no}
use Rattle.yring.specs.Cursor.{distance}
use Rattle.yring.specs.Ring.{push_item}
use Rattle.lane.specs.Lane.{sent, push_and_flush_item, refill}
use Rattle.lane.specs.Table.{lane_at}
use Rattle.queues.specs.Header.{capacity, channel, lane_count, living_count, held_less}
use Rattle.store.specs.Refusal.{Verdict}
use Rattle.std.specs.Prelude.{Ok, Err, Option, Some, None, Result}
use Rattle.turns.specs.declared.turn.Took.{Took}
use Rattle.store.specs.Words.{Words, unless_refused, with_rings}
use Rattle.opening.specs.Opening.{open_sized, open_store}
use Rattle.sender.specs.Sender.{pushed, send_signaled, take_signaled, send_unsignaled, register_slot, register_sender, try_send, try_send_unsignaled, drop_sender, sender_words}
use Rattle.control.specs.Control.{pause, resume, close_lane, close_receiver}
use Rattle.all_lanes.specs.AllLanes.{release_consumed, poll_all_lanes, count_held}
use Rattle.turns.specs.Drained.{retire_empty_paused_lanes, empty_or_drained, nothing_taken}
use Rattle.receive.specs.Receive.{take_one, take_fair, answer_one, try_recv, try_recv_fair}
use Rattle.receive_batch.specs.Batch.{drained, batch_verdict, answer_items, batch_answer, batch_words, handed_by, batch_hands, try_recv_batch_into}
use Rattle.receive_while.specs.declared.batch_while.Drained.{Drained}
use Rattle.receive_while.specs.While.{drained_while, answer_while, while_answer, while_words, while_hands, try_recv_batch_into_while}
use Rattle.receive_from.specs.Target.{settle_target, target_took, take_from, try_recv_from}
use Rattle.refinement.specs.Runs.{}
use Rattle.control.specs.Calls.{control_words}
use Rattle.store.proofs.RefusalLaws.{unless_refused_case}
use Rattle.lane.specs.declared.lane.EmptyLane.{EmptyLane}
use Rattle.lane.specs.declared.lane.Lane.{Lane}

-- "a refusal leaves state, both stores and the output unchanged"
abbrev pub Unmoved : List ℕ → List ℕ → Words → Type 0
Unmoved t r w = (why : Refusal) → w.0 ≡ Refused why → ◌≡◌ {A = List ℕ × List ℕ} (w.1, w.2) (t, r)

-- an answer and two stores that are as they were
pub all_left : (t r : List ℕ) (w : Words) → Unmoved t r w → (why : Refusal) → w.0 ≡ Refused why → w ≡ (Refused why, t, r)
all_left t r w u why e = λ i. (e i, (u why e i).0, (u why e i).1)

-- a call whose other answers are no refusals
module _ (t r : List ℕ) where
  accepted_unmoved : (w : Words) → accepted w.0 ≡ true → Unmoved t r w
  unfolding accepted
  accepted_unmoved w a why e = absurd (no a (ap accepted e))

  unless_unmoved : (v : Verdict) (w : Words) → Unmoved t r w → Unmoved t r (unless_refused v t r w)
  unless_unmoved v w u = unless_refused_case (Unmoved t r) v t r w (λ why e n f. refl) (λ e. u)

  pub unless_accepted : (v : Verdict) (w : Words) → accepted w.0 ≡ true → Unmoved t r (unless_refused v t r w)
  unless_accepted v w a = unless_unmoved v w (accepted_unmoved w a)

  -- ---- sender calls

  -- a ring that is full is not written to
  module _ (k : LaneKey) (v : ℕ) where
    full : Bool
    full = eqb (distance (lane_at t k.slot).tail (lane_at t k.slot).released) (capacity t)

    send_unmoved : Unmoved t r (send_signaled t (pushed t r k v))
    unfolding full send_signaled take_signaled push_and_flush_item sent push_item accepted
    send_unmoved = go full refl
      where
        go : (b : Bool) → full ≡ b → Unmoved t r (send_signaled t (pushed t r k v))
        go true e = rw e (λ why f. refl)
        go false e = rw e (λ why f. absurd (no refl (ap accepted f)))

    unsignaled_unmoved : Unmoved t r (send_unsignaled t (pushed t r k v))
    unfolding full send_unsignaled push_and_flush_item sent push_item accepted
    unsignaled_unmoved = go full refl
      where
        go : (b : Bool) → full ≡ b → Unmoved t r (send_unsignaled t (pushed t r k v))
        go true e = rw e (λ why f. refl)
        go false e = rw e (λ why f. absurd (no refl (ap accepted f)))

  pub sender_unmoved : (c : SenderCall) → Unmoved t r (sender_words t r c)
  unfolding sender_words register_sender register_slot try_send try_send_unsignaled drop_sender accepted
  sender_unmoved (RegisterSender most) = unless_unmoved _ _ (unless_accepted _ _ refl)
  sender_unmoved (TrySend k v) = unless_unmoved _ _ (send_unmoved k v)
  sender_unmoved (TrySendUnsignaled k v) = unless_unmoved _ _ (unsignaled_unmoved k v)
  sender_unmoved (DropSender k) = unless_accepted _ _ refl

  -- ---- control calls

  pub control_unmoved : (c : ControlCall) → Unmoved t r (control_words t r c)
  unfolding control_words pause resume close_lane release_consumed poll_all_lanes close_receiver count_held accepted
  control_unmoved (Pause i) = unless_accepted _ _ refl
  control_unmoved (Resume i) = unless_accepted _ _ refl
  control_unmoved (CloseLane i) = unless_accepted _ _ refl
  control_unmoved ReleaseConsumed = unless_accepted _ _ refl
  control_unmoved PollAllLanes = unless_accepted _ _ refl
  control_unmoved CloseReceiver = unless_accepted _ _ refl
  control_unmoved CountHeld = accepted_unmoved (count_held t r) refl

-- ---- single receives

pub nothing_taken_accepted : (t : List ℕ) → accepted (nothing_taken t).0 ≡ true
unfolding nothing_taken empty_or_drained accepted
nothing_taken_accepted t = go (eqb (living_count t) 0) (eqb (lane_count (retire_empty_paused_lanes t)) 0)
  where
    go : (b c : Bool) → accepted (cond {A = Answer × List ℕ} b (cond c Disconnected Empty, retire_empty_paused_lanes t) (Empty, t)).0 ≡ true
    go true true = refl
    go true false = refl
    go false c = refl

pub answer_one_accepted : (channel : OpenedChannel) (took : Option Took × List ℕ) → accepted (answer_one channel took).0 ≡ true
unfolding answer_one accepted
answer_one_accepted channel (Some took, t) = refl
answer_one_accepted channel (None, t) = nothing_taken_accepted t

pub take_from_accepted : (t r : List ℕ) (x : ℕ) → accepted (take_from t r x).0 ≡ true
unfolding take_from target_took settle_target accepted
take_from_accepted t r x = go (refill (lane_at t x))
  where
    settled : (b : Bool) → accepted (cond b Disconnected Empty) ≡ true
    settled true = refl
    settled false = refl

    go : (p : Result Lane EmptyLane) → accepted (target_took t r x p).0 ≡ true
    go (Err found) = settled found.disconnected
    go (Ok l) = refl

module _ (t r : List ℕ) where
  pub try_recv_unmoved : Unmoved t r (try_recv t r)
  unfolding try_recv
  try_recv_unmoved = unless_accepted t r _ _ (answer_one_accepted (channel t) (take_one t r))

  pub try_recv_fair_unmoved : Unmoved t r (try_recv_fair t r)
  unfolding try_recv_fair
  try_recv_fair_unmoved = unless_accepted t r _ _ (answer_one_accepted (channel t) (take_fair t r))

  pub try_recv_from_unmoved : (i : LaneId) → Unmoved t r (try_recv_from t r i)
  unfolding try_recv_from
  try_recv_from_unmoved i = unless_accepted t r _ _ (take_from_accepted t r i.key.slot)

-- ---- the batch

answer_items_accepted : (limit n : ℕ) (t : List ℕ) → accepted (answer_items limit n t).0 ≡ true
unfolding answer_items accepted
answer_items_accepted limit n t = go (eqb n 0) (eqb limit 0)
  where
    go : (b c : Bool) → accepted (cond {A = Answer × List ℕ} b (cond c (Items 0, t) (nothing_taken t)) (Items n, held_less t n)).0 ≡ true
    go true true = refl
    go true false = nothing_taken_accepted t
    go false c = refl

module _ (t r : List ℕ) (limit : ℕ) where
  pub batch_accepted : accepted (batch_answer t r limit).0 ≡ true
  unfolding batch_answer
  batch_accepted = answer_items_accepted limit _ _

  pub batch_unmoved : (room : ℕ) → Unmoved t r (batch_words t r limit room)
  unfolding batch_words
  batch_unmoved room = unless_accepted t r _ _ batch_accepted

pub batch_output_unmoved : (t r out : List ℕ) (limit : ℕ) (why : Refusal) → (batch_words t r limit (length out)).0 ≡ Refused why → (try_recv_batch_into t r out limit).3 ≡ out
unfolding batch_words try_recv_batch_into batch_hands unless_refused handed_by written_to accepted
batch_output_unmoved t r out limit why e = go (batch_verdict t limit (length out)) e
  where
    go : (v : Verdict) → (unless_refused v t r (with_rings r (batch_answer t r limit))).0 ≡ Refused why → written_to (handed_by v (drained t r limit).0) out ≡ out
    go (Ok u) f = absurd (no (batch_accepted t r limit) (ap accepted f))
    go (Err n) f = refl

-- ---- the batch that stops

answer_while_accepted : (limit : ℕ) (m : Drained) (t : List ℕ) → accepted (answer_while limit m t).0 ≡ true
unfolding answer_while accepted
answer_while_accepted limit m t = go m.rejected
  where
    go : (b : Bool) → accepted (cond {A = Answer × List ℕ} b (Stopped m.received, held_less t m.received) (answer_items limit m.received t)).0 ≡ true
    go true = refl
    go false = answer_items_accepted limit m.received t

module _ (t r : List ℕ) (limit bound : ℕ) where
  pub while_accepted : accepted (while_answer t r limit bound).0 ≡ true
  unfolding while_answer
  while_accepted = answer_while_accepted limit _ _

  pub while_unmoved : (room : ℕ) → Unmoved t r (while_words t r limit bound room)
  unfolding while_words
  while_unmoved room = unless_accepted t r _ _ while_accepted

pub while_output_unmoved : (t r out : List ℕ) (limit bound : ℕ) (why : Refusal) → (while_words t r limit bound (length out)).0 ≡ Refused why → (try_recv_batch_into_while t r out limit bound).3 ≡ out
unfolding while_words try_recv_batch_into_while while_hands unless_refused handed_by written_to accepted
while_output_unmoved t r out limit bound why e = go (batch_verdict t limit (length out)) e
  where
    go : (v : Verdict) → (unless_refused v t r (with_rings r (while_answer t r limit bound))).0 ≡ Refused why → written_to (handed_by v (drained_while t r limit bound).1.0) out ≡ out
    go (Ok u) f = absurd (no (while_accepted t r limit bound) (ap accepted f))
    go (Err n) f = refl

module _ (t r : List ℕ) where
  -- ---- the opening

  pub open_unmoved : (o : Opening) → Unmoved t r (open_store o t r)
  unfolding open_store open_sized accepted
  open_unmoved o = unless_unmoved t r _ _ (unless_accepted t r _ _ refl)
