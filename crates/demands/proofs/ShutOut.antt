-- What document 01 says demands 2 and 3 shut out, they do: each by one computed run of the wrong rules (specs/ShutOut.antt) on which the demand fails.
-- Assumes nothing.
use mathlib.Core.Path.{◌≡◌, refl, ap}
use mathlib.Core.Bool.{true, false}
use mathlib.Core.List.{List, [], ◌∷◌}
use Prim.Native.Nat.{ℕ, ◌≤◌}
use native.Mathlib.Omega.{arith}
use lib.ListN.{length, take, drop}
use Rattle.model.specs.declared.LaneKey.{LaneKey}
use Rattle.model.specs.declared.Opening.{Opening}
use Rattle.model.specs.declared.SenderCall.TheVariants.{RegisterSender, TrySend, DropSender}
use Rattle.model.specs.declared.ReceiveCall.{ReceiveCall}
use Rattle.model.specs.declared.ReceiveCall.TheVariants.{TryRecv, TryRecvFair, TryRecvFrom, TryRecvBatchInto, TryRecvBatchIntoWhile}
use Rattle.model.specs.declared.ControlCall.TheVariants.{CountHeld}
use Rattle.model.specs.declared.Call.{Call}
use Rattle.model.specs.declared.Call.TheVariants.{Sender, Receive, Control}
use Rattle.model.specs.declared.Answer.{Answer}
use Rattle.model.specs.declared.Answer.TheVariants.{Done, Registered, Taken, Item, Items, Stopped, Empty, Disconnected, Held, Refused}
use Rattle.model.specs.State.{State, ring_of}
use Rattle.model.specs.Runs.{Lent, all_runs, accepted, Tick, gives, ends, handed, ticks, trace, after_list, same_key, count_ticks, of_lane}
use Rattle.model.specs.Sender.{sender_outcome}
use Rattle.model.specs.Receive.{receive_outcome, output_after}
use Rattle.model.specs.Control.{control_outcome}
use Rattle.model.specs.Rules.{outcome, the_rules}
use Rattle.model.specs.Ledger.{at_opening, change_lane, add_item, remove_oldest, set_paused, set_closed, set_dropped, add_registered, apply_call, note, ledger_after, waits, waits_in, any_ordinary}
use Rattle.model.specs.Stretch.{ends_wait, ends_stretch, stretch, looks, finds_nothing, looks_in_vain, other_receive, not_fair}
use Rattle.model.specs.Demand2.{Demand2, Demand2In, out_of, into, shuts, values, Tells, HasRoom, HandsAsAnswered}
use Rattle.model.specs.Demand3.{Demand3, Demand3In}
use Rattle.model.specs.Held.{HeldAsCounted, HeldAsCountedIn, held_by, held_by_lanes}
use Rattle.model.specs.Stops.{oldest_above, some_above, StopsAt, is_plain, of_plain, gives_above, NextIsAboveIn, NextIsAbove, StopsOnlyAtItemsIn, StopsOnlyAtItems, HandsOnlyAdmittedIn, HandsOnlyAdmitted}
use Rattle.model.specs.Simulation.{Simulation}
use Rattle.model.specs.Keys.{registers_as, answers_key_that, KeysNeverAgainIn, KeysNeverAgain}
use Rattle.model.specs.Wake.{items_below, below_limit, may_sleep, ends_sleep, sends_to, says_woken, wakes, paused_in, NoLostWakeIn, NoLostWake}
use Rattle.model.proofs.Examples.Calls.{compute}
use Rattle.model.specs.ShutOut.{call_by, output_by, receive_before_looking, empty_before_looking, receive_of_front, fair_serves_front_only, send_refused, send_full_always, send_unstored, send_stores_nothing, batch_by, while_by, stopped_at_once, batch_always_stops, stopped_at_end, batch_stops_at_end, item_above, stopped_too_soon, batch_stops_too_soon, never_stopped, batch_never_stops, first_moved, batch_moves_first_only, others_reported, batch_reports_others, one_more_counted, batch_counts_one_more, receive_leaves_item, item_for_ever, counts_none, held_zero, issued_again, register_same_key, same_key_again, send_unwoken, send_never_wakes}
use Rattle.demands.proofs.Counting.{no}
use Rattle.demands.proofs.Simulation.{opened_trace}

-- the frame of the wrong rules is document 01's: with its own outcomes it is its rules
pub frame_is_the_rules : (s : State) (c : Call) → call_by sender_outcome receive_outcome control_outcome s c ≡ outcome s c
unfolding call_by outcome
frame_is_the_rules s (Sender c) = refl
frame_is_the_rules s (Receive r) = refl
frame_is_the_rules s (Control c) = refl

pub frame_writes_the_rules : (s : State) (r : ReceiveCall) (out : List ℕ) → output_by r (receive_outcome s r).0 out ≡ output_after s r out
unfolding output_by output_after receive_outcome
frame_writes_the_rules s TryRecv out = refl
frame_writes_the_rules s TryRecvFair out = refl
frame_writes_the_rules s (TryRecvFrom i) out = refl
frame_writes_the_rules s (TryRecvBatchInto limit room) out = refl
frame_writes_the_rules s (TryRecvBatchIntoWhile limit bound room) out = refl

-- two slots of capacity 4
opening : Opening
opening = record { capacity = 4; slots = 2; channel = 7; cursor = 0; generation = 0; number = 0 }

lent : Lent
lent = record { rings = 8; table = 560 }

lane : ℕ → LaneKey
lane x = record { slot = x; generation = 0 }

registers : Call
registers = Sender (RegisterSender 9)

sends : ℕ → ℕ → Call
sends x v = Sender (TrySend (lane x) v)

plain : Call
plain = Receive TryRecv

fair : Call
fair = Receive TryRecvFair

held : Call
held = Control CountHeld

-- all that these runs compute with
compute_wrong : Unit {0}
unfolding compute opening lent lane registers sends plain fair held accepted handed ticks trace after_list same_key count_ticks of_lane at_opening change_lane add_item remove_oldest set_paused set_closed set_dropped add_registered apply_call note ledger_after waits waits_in any_ordinary ends_wait ends_stretch stretch looks finds_nothing looks_in_vain other_receive not_fair out_of into shuts values Tells HasRoom held_by held_by_lanes call_by output_by receive_before_looking receive_of_front send_refused send_unstored batch_by first_moved others_reported one_more_counted while_by stopped_at_once stopped_at_end never_stopped receive_leaves_item counts_none
compute_wrong = tt

-- "Demand 3 shuts out a receiver that says Empty before looking": lane 0 has its item, and the plain receive answers Empty
pub empty_before_looking_shut_out : Demand3 empty_before_looking → ⊥
unfolding compute_wrong Demand3 Demand3In
empty_before_looking_shut_out demand =
    let in_vain : ◌≡◌ {A = ℕ} 1 0 = (demand opening lent refl calls tt (take 2 run) (drop 2 run) refl (lane 0) refl).sees in omega (arith, in_vain)
  where
    calls : List Call
    calls = registers ∷ sends 0 5 ∷ plain ∷ []

    run : List Tick
    run = trace empty_before_looking (empty_before_looking.opens opening lent).1 calls

-- "and a fair receive that serves only the front lane": lane 1 waits, all receives are fair, and lane 0 gives two items
pub fair_of_front_shut_out : Demand3 fair_serves_front_only → ⊥
unfolding compute_wrong Demand3 Demand3In
fair_of_front_shut_out demand =
    let twice : 2 ≤ 1 = (demand opening lent refl calls tt (take 5 run) (drop 5 run) refl (lane 1) refl).fair_once refl (lane 0) refl in omega (arith, twice)
  where
    calls : List Call
    calls = registers ∷ registers ∷ sends 0 5 ∷ sends 0 5 ∷ sends 1 6 ∷ fair ∷ fair ∷ []

    run : List Tick
    run = trace fair_serves_front_only (fair_serves_front_only.opens opening lent).1 calls

-- how many sends to lane 0 a run accepts
accepted_sends : List Tick → ℕ
accepted_sends ts = length (values (into (lane 0)) ts)

-- "Demand 2 shuts out a send refusing every item as full": such rules do not simulate document 01's, "each call is proved to do what document 01's rules say"
-- whatever their states are said to stand for, and whichever are said to be in order
pub full_always_shut_out : (view : State → State) (Ok : State → Type 0)
    → Simulation record { rules = send_full_always; runs = all_runs send_full_always; view = view; Ok = Ok } → ⊥
unfolding compute_wrong accepted_sends
full_always_shut_out view Ok sim = omega (arith, none)
  where
    calls : List Call
    calls = registers ∷ sends 0 5 ∷ []

    same_run : trace send_full_always (send_full_always.opens opening lent).1 calls ≡ trace the_rules (the_rules.opens opening lent).1 calls
    same_run = opened_trace _ sim opening lent refl calls tt

    none : ◌≡◌ {A = ℕ} 0 1
    none = ap accepted_sends same_run

-- "or storing nothing": the send is accepted, and its item is nowhere
pub stores_nothing_shut_out : Demand2 send_stores_nothing ring_of → ⊥
unfolding compute_wrong Demand2 Demand2In
stores_nothing_shut_out demand =
    let none : ◌≡◌ {A = ℕ} 0 1 = ap length (demand opening lent refl (registers ∷ sends 0 5 ∷ []) tt (lane 0) refl) in omega (arith, none)

-- "a batch that moves its first chunk and only reports the others": of three items handed out two are still in the ring
pub first_moved_shut_out : Demand2 batch_moves_first_only ring_of → ⊥
unfolding compute_wrong Demand2 Demand2In
first_moved_shut_out demand =
    let five : ◌≡◌ {A = ℕ} 5 3 = ap length (demand opening lent refl (registers ∷ sends 0 5 ∷ sends 0 6 ∷ sends 0 7 ∷ Receive (TryRecvBatchInto 4 4) ∷ []) tt (lane 0) refl) in omega (arith, five)

-- a lane with three items
three_sent : State
three_sent = after_list the_rules (the_rules.opens opening lent).1 (registers ∷ sends 0 5 ∷ sends 0 6 ∷ sends 0 7 ∷ [])

-- where the others are not handed out, the answer does not tell what is
pub others_reported_shut_out : HandsAsAnswered batch_reports_others → ⊥
unfolding compute_wrong HandsAsAnswered three_sent
others_reported_shut_out h =
    let one : ◌≡◌ {A = ℕ} 1 3 = (h three_sent (TryRecvBatchInto 4 4) (0 ∷ 0 ∷ 0 ∷ 0 ∷ []) refl).tells in omega (arith, one)

-- "or a count it did not move"
pub one_more_counted_shut_out : HandsAsAnswered batch_counts_one_more → ⊥
unfolding compute_wrong HandsAsAnswered three_sent
one_more_counted_shut_out h =
    let three : ◌≡◌ {A = ℕ} 3 4 = (h three_sent (TryRecvBatchInto 4 4) (0 ∷ 0 ∷ 0 ∷ 0 ∷ []) refl).tells in omega (arith, three)

-- "one item handed out for ever": handed out once, and still in the ring
pub item_for_ever_shut_out : Demand2 item_for_ever ring_of → ⊥
unfolding compute_wrong Demand2 Demand2In
item_for_ever_shut_out demand =
    let two : ◌≡◌ {A = ℕ} 2 1 = ap length (demand opening lent refl (registers ∷ sends 0 5 ∷ plain ∷ []) tt (lane 0) refl) in omega (arith, two)

-- "a held count of 0": one item was sent
held_in : Answer → ℕ
held_in Done = 0
held_in (Registered k) = 0
held_in (Taken w f) = 0
held_in (Item v i) = 0
held_in (Items n) = 0
held_in (Stopped n) = 0
held_in Empty = 0
held_in Disconnected = 0
held_in (Held n) = n
held_in (Refused r) = 0

pub held_zero_shut_out : HeldAsCounted held_zero → ⊥
unfolding compute_wrong HeldAsCounted HeldAsCountedIn held_in
held_zero_shut_out h =
    let zero_held : ◌≡◌ {A = ℕ} 0 1 = ap held_in (h opening lent refl calls tt (take 2 run) [] (Held 0) refl) in omega (arith, zero_held)
  where
    calls : List Call
    calls = registers ∷ sends 0 5 ∷ held ∷ []

    run : List Tick
    run = trace held_zero (held_zero.opens opening lent).1 calls

-- ---- by what is claimed beside the demands

-- document 02, N2: a batch that answers a stop at count 0 whatever there is: on an empty channel no item is next
pub always_stops_shut_out : StopsOnlyAtItems batch_always_stops → ⊥
unfolding compute_wrong StopsOnlyAtItems StopsOnlyAtItemsIn StopsAt some_above oldest_above
always_stops_shut_out h = no (h opening lent refl calls tt [] [] (Receive (TryRecvBatchIntoWhile 4 5 4)) 0 refl).1 refl
  where
    calls : List Call
    calls = Receive (TryRecvBatchIntoWhile 4 5 4) ∷ []

-- one that says so after all items, which were admitted: none is left
pub stops_at_end_shut_out : StopsOnlyAtItems batch_stops_at_end → ⊥
unfolding compute_wrong StopsOnlyAtItems StopsOnlyAtItemsIn StopsAt some_above oldest_above
stops_at_end_shut_out h = no (h opening lent refl calls tt (take 3 run) [] (Receive (TryRecvBatchIntoWhile 4 5 4)) 1 refl).1 refl
  where
    calls : List Call
    calls = registers ∷ sends 0 5 ∷ Receive (TryRecvBatchIntoWhile 4 5 4) ∷ []

    run : List Tick
    run = trace batch_stops_at_end (batch_stops_at_end.opens opening lent).1 calls

-- one that stops at once for an item that is not in front: a plain receive then hands out lane 0's
pub stops_too_soon_shut_out : NextIsAbove batch_stops_too_soon → ⊥
unfolding compute_wrong NextIsAbove NextIsAboveIn stopped_too_soon item_above is_plain of_plain gives_above
stops_too_soon_shut_out h =
    no (h opening lent refl calls tt
    (ends registers (Registered (lane 0)) ∷ ends registers (Registered (lane 1)) ∷ ends (sends 0 1) (Taken true 3) ∷ ends (sends 1 9) (Taken true 3) ∷ [])
    (ends plain (Item 1 record { channel = record { id = 7; opening = 0 }; key = lane 0 }) ∷ []) 4 5 4 0 (gives TryRecv (lane 0) 1) refl refl) refl
  where
    calls : List Call
    calls = registers ∷ registers ∷ sends 0 1 ∷ sends 1 9 ∷ Receive (TryRecvBatchIntoWhile 4 5 4) ∷ plain ∷ []

-- and one that does not stop: an item of 9 is handed out under a bound of 5
pub never_stops_shut_out : HandsOnlyAdmitted batch_never_stops → ⊥
unfolding compute_wrong HandsOnlyAdmitted HandsOnlyAdmittedIn
never_stops_shut_out h =
    let within : 9 ≤ 5 = h opening lent refl calls tt (ends registers (Registered (lane 0)) ∷ ends (sends 0 9) (Taken true 3) ∷ []) (ends stopping (Items 1) ∷ []) 4 5 4 (lane 0) 9 refl in
    omega (arith, within)
  where
    stopping : Call
    stopping = Receive (TryRecvBatchIntoWhile 4 5 4)

    calls : List Call
    calls = registers ∷ sends 0 9 ∷ stopping ∷ []

-- a slot that is issued again under the same key: lane 0 is dropped and found, and (0, 0) is answered again
pub same_key_again_shut_out : KeysNeverAgain same_key_again → ⊥
unfolding compute_wrong KeysNeverAgain KeysNeverAgainIn issued_again register_same_key registers_as answers_key_that
same_key_again_shut_out h =
    let once : ◌≡◌ {A = ℕ} 1 0 = h opening lent refl calls tt (take 3 run) [] registers (lane 0) refl in omega (arith, once)
  where
    calls : List Call
    calls = registers ∷ Sender (DropSender (lane 0)) ∷ plain ∷ registers ∷ []

    run : List Tick
    run = trace same_key_again (same_key_again.opens opening lent).1 calls

-- a send that never says woken 1: after a plain receive that answered Empty
pub never_wakes_shut_out : NoLostWake send_never_wakes → ⊥
unfolding compute_wrong NoLostWake NoLostWakeIn send_unwoken may_sleep below_limit items_below ends_sleep sends_to paused_in wakes says_woken
never_wakes_shut_out h = no (h opening lent refl calls tt (take 1 run) [] [] plain Empty (ends (sends 0 5) (Taken false 3)) refl refl refl (lane 0) refl refl refl) refl
  where
    calls : List Call
    calls = registers ∷ plain ∷ sends 0 5 ∷ []

    run : List Tick
    run = trace send_never_wakes (send_never_wakes.opens opening lent).1 calls
