-- A refused call leaves the rules' state as it was.
-- Assumes nothing.
use mathlib.Core.Path.{◌≡◌, refl, ap}
use mathlib.Core.Bool.{Bool, true, false}
use mathlib.Core.List.{List, [], ◌∷◌}
use Prim.Native.Nat.{ℕ, zero, suc}
use lib.Dec.{leb}
use Rattle.model.specs.declared.LaneKey.{LaneKey}
use Rattle.model.specs.declared.SenderCall.{SenderCall}
use Rattle.model.specs.declared.SenderCall.TheVariants.{RegisterSender, TrySend, TrySendUnsignaled, DropSender}
use Rattle.model.specs.declared.ReceiveCall.{ReceiveCall}
use Rattle.model.specs.declared.ReceiveCall.TheVariants.{TryRecv, TryRecvFair, TryRecvFrom, TryRecvBatchInto, TryRecvBatchIntoWhile}
use Rattle.model.specs.declared.ControlCall.{ControlCall}
use Rattle.model.specs.declared.ControlCall.TheVariants.{Pause, Resume, CloseLane, ReleaseConsumed, PollAllLanes, CloseReceiver, CountHeld}
use Rattle.model.specs.declared.Call.TheVariants.{Sender, Receive, Control}
use Rattle.model.specs.declared.Refusal.{Refusal}
use Rattle.model.specs.declared.Answer.TheVariants.{Empty, Disconnected, Refused}
use Rattle.model.specs.Lists.{if, from}
use Rattle.model.specs.State.{State, registered_lanes, living_senders}
use Rattle.model.specs.Outcome.{Outcome, says}
use Rattle.model.specs.Runs.{accepted}
use Rattle.model.specs.Sender.{issue_slot, register_sender, try_send, try_send_unsignaled, drop_sender, sender_outcome}
use Rattle.model.specs.Receive.{retire_empty_paused_lanes, empty_or_drained, nothing_taken, answer_one, try_recv, try_recv_fair, take_from, try_recv_from, answer_items, try_recv_batch_into, receive_outcome, take_while, answer_while, try_recv_batch_into_while}
use Rattle.model.specs.Control.{pause, resume, close_lane, release_consumed, poll_all_lanes, close_receiver, count_held, control_outcome}
use Rattle.model.specs.Rules.{outcome, the_rules}
use Rattle.model.specs.Demand1.{RefusalChangesNothing}
use Rattle.demands.proofs.Counting.{no}
use Rattle.demands.proofs.Moves.{unless_law}

-- if it is refused, it leaves s
record RefusalLeaves (s : State) (o : Outcome) : Type 0 where
  unchanged : (r : Refusal) → o.1.0 ≡ Refused r → o.1.1 ≡ s

refused_leaves : (s : State) (r : Refusal) → RefusalLeaves s ([], (Refused r, s))
refused_leaves s r = record { unchanged = λ q e. refl }

accepted_leaves : (s : State) (o : Outcome) → accepted o.1.0 ≡ true → RefusalLeaves s o
unfolding accepted
accepted_leaves s o a = record { unchanged = λ r e. absurd (no a (ap accepted e)) }

-- what the calls answer where they are not refused
nothing_taken_accepted : (s : State) → accepted (nothing_taken s).1.0 ≡ true
unfolding nothing_taken empty_or_drained accepted
nothing_taken_accepted s = go (leb 1 (living_senders s)) (leb 1 (registered_lanes (retire_empty_paused_lanes (from 0 s.issued) s)))
  where
    go : (b c : Bool) → accepted (if b (says Empty s) (says (if c Empty Disconnected) (retire_empty_paused_lanes (from 0 s.issued) s))).1.0 ≡ true
    go true c = refl
    go false true = refl
    go false false = refl

pub answer_one_accepted : (l : List (LaneKey × ℕ)) (s : State) → accepted (answer_one l s).1.0 ≡ true
unfolding answer_one accepted
answer_one_accepted [] s = nothing_taken_accepted s
answer_one_accepted (g ∷ l) s = refl

pub answer_items_accepted : (m : ℕ) (l : List (LaneKey × ℕ)) (s : State) → accepted (answer_items m l s).1.0 ≡ true
unfolding answer_items accepted
answer_items_accepted zero l s = refl
answer_items_accepted (suc m) [] s = nothing_taken_accepted s
answer_items_accepted (suc m) (g ∷ l) s = refl

pub answer_while_accepted : (m : ℕ) (c : Bool) (l : List (LaneKey × ℕ)) (s : State) → accepted (answer_while m c l s).1.0 ≡ true
unfolding answer_while accepted
answer_while_accepted m true l s = refl
answer_while_accepted m false l s = answer_items_accepted m l s

pub take_from_accepted : (l : List ℕ) (x : ℕ) (s : State) → accepted (take_from l x s).1.0 ≡ true
unfolding take_from accepted
take_from_accepted [] x s = go (s.slot_of x).living
  where
    go : (b : Bool) → accepted (if b Empty Disconnected) ≡ true
    go true = refl
    go false = refl
take_from_accepted (v ∷ vs) x s = refl

issue_slot_accepted : (f : List ℕ) (s : State) → accepted (issue_slot f s).1.0 ≡ true
unfolding issue_slot accepted
issue_slot_accepted [] s = refl
issue_slot_accepted (x ∷ f) s = refl

-- the calls
sender_leaves : (s : State) (c : SenderCall) → RefusalLeaves s (sender_outcome s c)
unfolding sender_outcome register_sender try_send try_send_unsignaled drop_sender accepted
sender_leaves s (RegisterSender m) = unless_law (RefusalLeaves s) _ s _ (refused_leaves s) (λ p. accepted_leaves s _ (issue_slot_accepted _ s))
sender_leaves s (TrySend k v) = unless_law (RefusalLeaves s) _ s _ (refused_leaves s) (λ p. accepted_leaves s _ refl)
sender_leaves s (TrySendUnsignaled k v) = unless_law (RefusalLeaves s) _ s _ (refused_leaves s) (λ p. accepted_leaves s _ refl)
sender_leaves s (DropSender k) = unless_law (RefusalLeaves s) _ s _ (refused_leaves s) (λ p. accepted_leaves s _ refl)

receive_leaves : (s : State) (r : ReceiveCall) → RefusalLeaves s (receive_outcome s r)
unfolding receive_outcome try_recv try_recv_fair try_recv_from try_recv_batch_into try_recv_batch_into_while
receive_leaves s TryRecv = unless_law (RefusalLeaves s) _ s _ (refused_leaves s) (λ p. accepted_leaves s _ (answer_one_accepted _ _))
receive_leaves s TryRecvFair = unless_law (RefusalLeaves s) _ s _ (refused_leaves s) (λ p. accepted_leaves s _ (answer_one_accepted _ _))
receive_leaves s (TryRecvFrom i) = unless_law (RefusalLeaves s) _ s _ (refused_leaves s) (λ p. accepted_leaves s _ (take_from_accepted _ _ s))
receive_leaves s (TryRecvBatchInto m n) = unless_law (RefusalLeaves s) _ s _ (refused_leaves s) (λ p. accepted_leaves s _ (answer_items_accepted m _ _))
receive_leaves s (TryRecvBatchIntoWhile m b n) = unless_law (RefusalLeaves s) _ s _ (refused_leaves s) (λ p. accepted_leaves s _ (answer_while_accepted m (take_while b m s).0 _ _))

control_leaves : (s : State) (c : ControlCall) → RefusalLeaves s (control_outcome s c)
unfolding control_outcome pause resume close_lane release_consumed poll_all_lanes close_receiver count_held accepted
control_leaves s (Pause i) = unless_law (RefusalLeaves s) _ s _ (refused_leaves s) (λ p. accepted_leaves s _ refl)
control_leaves s (Resume i) = unless_law (RefusalLeaves s) _ s _ (refused_leaves s) (λ p. accepted_leaves s _ refl)
control_leaves s (CloseLane i) = unless_law (RefusalLeaves s) _ s _ (refused_leaves s) (λ p. accepted_leaves s _ refl)
control_leaves s ReleaseConsumed = unless_law (RefusalLeaves s) _ s _ (refused_leaves s) (λ p. accepted_leaves s _ refl)
control_leaves s PollAllLanes = unless_law (RefusalLeaves s) _ s _ (refused_leaves s) (λ p. accepted_leaves s _ refl)
control_leaves s CloseReceiver = unless_law (RefusalLeaves s) _ s _ (refused_leaves s) (λ p. accepted_leaves s _ refl)
control_leaves s CountHeld = accepted_leaves s _ refl

pub refusal_changes_nothing : RefusalChangesNothing the_rules
unfolding RefusalChangesNothing outcome
refusal_changes_nothing s (Sender c) r e = (sender_leaves s c).unchanged r e
refusal_changes_nothing s (Receive c) r e = (receive_leaves s c).unchanged r e
refusal_changes_nothing s (Control c) r e = (control_leaves s c).unchanged r e
