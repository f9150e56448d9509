-- Every call, on a store in order, does what the rules say, answers as they do, hands out what they hand out, and leaves a store in order.
-- Assumes nothing.
use mathlib.Core.Path.{◌≡◌, refl, ap, ◌∙◌}
use mathlib.Core.List.{List}
use Prim.Native.Nat.{ℕ, ◌≤◌}
use Rattle.model.specs.declared.ReceiveCall.{ReceiveCall}
use Rattle.model.specs.declared.ReceiveCall.TheVariants.{TryRecv, TryRecvFair, TryRecvFrom, TryRecvBatchInto, TryRecvBatchIntoWhile}
use Rattle.model.specs.declared.Call.{Call}
use Rattle.model.specs.declared.Call.TheVariants.{Sender, Receive, Control}
use Rattle.model.specs.declared.Refusal.{Refusal}
use Rattle.model.specs.declared.Answer.TheVariants.{Refused}
use Rattle.model.specs.Lists.{count}
use Rattle.model.specs.Receive as rules
use Rattle.model.specs.Receive.{receive_outcome, output_after}
use Rattle.model.specs.Demand2.{HasRoom}
use Rattle.model.specs.Rules.{outcome}
use Rattle.lane.specs.Table.{lane_at}
use Rattle.queues.specs.Queue.{queue_of}
use Rattle.store.specs.View.{view}
use Rattle.store.specs.Order.{Stores, StoreInOrder, but_held}
use Rattle.receive_batch.specs.Batch.{batch_words, batch_hands, try_recv_batch_into}
use Rattle.receive_while.specs.While.{while_words, while_hands, try_recv_batch_into_while}
use Rattle.refinement.specs.Runs.{receive_words, hands_words, output_words, call_words}
use Rattle.store.proofs.RefusalLaws.{seen}
use Rattle.store.proofs.HeldLaws.{HeldMoved}
use Rattle.store.proofs.StoreLaws.{store_in_order_after}
use Rattle.sender.proofs.SenderLaws.{sender_calls_alike, sender_calls_keep}
use Rattle.control.proofs.ControlLaws.{control_alike, control_keeps}
use Rattle.refinement.proofs.TryRecvLaws.{try_recv_alike, try_recv_hands, try_recv_keeps}
use Rattle.refinement.proofs.TryRecvFairLaws.{try_recv_fair_alike, try_recv_fair_hands, try_recv_fair_keeps}
use Rattle.refinement.proofs.TryRecvFromLaws.{try_recv_from_alike, try_recv_from_keeps}
use Rattle.refinement.proofs.TryRecvBatchLaws.{try_recv_batch_alike, try_recv_batch_hands, try_recv_batch_output, try_recv_batch_keeps}
use Rattle.refinement.proofs.TryRecvWhileLaws.{try_recv_while_alike, try_recv_while_hands, try_recv_while_output, try_recv_while_keeps}
use Rattle.refinement.proofs.HandsLaws.{try_recv_from_hands}
use Rattle.refinement.proofs.RefusedUnmoved.{Unmoved, sender_unmoved, control_unmoved, try_recv_unmoved, try_recv_fair_unmoved, try_recv_from_unmoved, batch_unmoved, batch_output_unmoved, while_unmoved, while_output_unmoved}
use Rattle.refinement.proofs.HeldKept.{sender_held, receive_held, control_held}
use Rattle.refinement.proofs.StaleNever.{queued_key_kept}

-- a refused call leaves every word, of any two stores
pub call_unmoved : (t r : List ℕ) (c : Call) → Unmoved t r (call_words t r c)
unfolding call_words receive_words
call_unmoved t r (Sender c) = sender_unmoved t r c
call_unmoved t r (Control c) = control_unmoved t r c
call_unmoved t r (Receive TryRecv) = try_recv_unmoved t r
call_unmoved t r (Receive TryRecvFair) = try_recv_fair_unmoved t r
call_unmoved t r (Receive (TryRecvFrom i)) = try_recv_from_unmoved t r i
call_unmoved t r (Receive (TryRecvBatchInto limit room)) = batch_unmoved t r limit room
call_unmoved t r (Receive (TryRecvBatchIntoWhile limit bound room)) = while_unmoved t r limit bound room

-- and its output
pub output_unmoved : (t r : List ℕ) (c : ReceiveCall) (out : List ℕ) → HasRoom c out → (why : Refusal) → (call_words t r (Receive c)).0 ≡ Refused why → output_words t r c out ≡ out
unfolding call_words receive_words output_words HasRoom
output_unmoved t r TryRecv out h why e = refl
output_unmoved t r TryRecvFair out h why e = refl
output_unmoved t r (TryRecvFrom i) out h why e = refl
output_unmoved t r (TryRecvBatchInto limit room) out h why e = batch_output_unmoved t r out limit why (ap (λ (n : ℕ). (batch_words t r limit n).0) h ∙ e)
output_unmoved t r (TryRecvBatchIntoWhile limit bound room) out h why e = while_output_unmoved t r out limit bound why (ap (λ (n : ℕ). (while_words t r limit bound n).0) h ∙ e)

module _ (t r : List ℕ) (o : StoreInOrder t r) where
  pub call_alike : (c : Call) → seen (call_words t r c) ≡ (outcome (view t r) c).1
  unfolding call_words receive_words outcome receive_outcome
  call_alike (Sender c) = sender_calls_alike t r o c
  call_alike (Control c) = control_alike t r c o
  call_alike (Receive TryRecv) = try_recv_alike t r (but_held o)
  call_alike (Receive TryRecvFair) = try_recv_fair_alike t r (but_held o)
  call_alike (Receive (TryRecvFrom i)) = try_recv_from_alike t r i o
  call_alike (Receive (TryRecvBatchInto limit room)) = try_recv_batch_alike t r (but_held o) limit room
  call_alike (Receive (TryRecvBatchIntoWhile limit bound room)) = try_recv_while_alike t r (but_held o) limit bound room

  pub hands_alike : (c : ReceiveCall) → hands_words t r c ≡ (receive_outcome (view t r) c).0
  unfolding hands_words receive_outcome
  hands_alike TryRecv = try_recv_hands t r (but_held o)
  hands_alike TryRecvFair = try_recv_fair_hands t r (but_held o)
  hands_alike (TryRecvFrom i) = try_recv_from_hands t r i o
  hands_alike (TryRecvBatchInto limit room) = try_recv_batch_hands t r (but_held o) limit room
  hands_alike (TryRecvBatchIntoWhile limit bound room) = try_recv_while_hands t r (but_held o) limit bound room

  -- what each call leaves beside the held count,
  call_stores : (c : Call) → Stores (call_words t r c).1 (call_words t r c).2
  unfolding call_words receive_words
  call_stores (Sender c) = sender_calls_keep t r o c
  call_stores (Control c) = control_keeps t r c o
  call_stores (Receive TryRecv) = (try_recv_keeps t r (but_held o)).stores
  call_stores (Receive TryRecvFair) = (try_recv_fair_keeps t r (but_held o)).stores
  call_stores (Receive (TryRecvFrom i)) = (try_recv_from_keeps t r i o).stores
  call_stores (Receive (TryRecvBatchInto limit room)) = (try_recv_batch_keeps t r (but_held o) limit room).stores
  call_stores (Receive (TryRecvBatchIntoWhile limit bound room)) = (try_recv_while_keeps t r (but_held o) limit bound room).stores

  -- and what it does to that
  pub call_moves_held : (c : Call) → HeldMoved t r c (call_words t r c)
  unfolding call_words
  call_moves_held (Sender c) = sender_held t r o c (call_stores (Sender c)).shaped
  call_moves_held (Receive c) = receive_held t r o c (hands_alike c) (call_stores (Receive c)).shaped
  call_moves_held (Control c) = control_held t r o c (call_stores (Control c)).shaped

  pub call_keeps : (c : Call) → StoreInOrder (call_words t r c).1 (call_words t r c).2
  call_keeps c = store_in_order_after t r c (call_words t r c) o (call_alike c) (call_stores c) (call_moves_held c)

  pub output_alike : (c : ReceiveCall) (out : List ℕ) → HasRoom c out → output_words t r c out ≡ output_after (view t r) c out
  unfolding output_words output_after HasRoom try_recv_batch_into try_recv_batch_into_while
  output_alike TryRecv out h = refl
  output_alike TryRecvFair out h = refl
  output_alike (TryRecvFrom i) out h = refl
  output_alike (TryRecvBatchInto limit room) out h =
      ap (λ (n : ℕ). rules.written_to (batch_hands t r limit n) out) h ∙ try_recv_batch_output t r out (but_held o) limit room
  output_alike (TryRecvBatchIntoWhile limit bound room) out h =
      ap (λ (n : ℕ). rules.written_to (while_hands t r limit bound n) out) h ∙ try_recv_while_output t r out (but_held o) limit bound room

  -- a lane in the queue keeps its key
  pub call_keeps_queued_key : (c : Call) (x : ℕ) → 1 ≤ count x (queue_of t) → (lane_at (call_words t r c).1 x).key ≡ (lane_at t x).key
  call_keeps_queued_key c x named = queued_key_kept t r c (call_words t r c) (but_held o) (call_alike c) x named
