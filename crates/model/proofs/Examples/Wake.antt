-- The words of `NoLostWakeIn` on one of each thing that can happen, computed; and runs of the rules in which a send wakes, and in which it does not.
-- Each line is a case and what is expected of it.
-- Assumes nothing.
use Rattle.std.specs.Prelude.{◌≡◌, refl, Bool, true, false, List, [], ◌∷◌, ℕ}
use Rattle.model.specs.declared.LaneKey.{LaneKey}
use Rattle.model.specs.declared.LaneId.{LaneId}
use Rattle.model.specs.declared.SenderCall.TheVariants.{RegisterSender, TrySend, TrySendUnsignaled, DropSender}
use Rattle.model.specs.declared.ReceiveCall.TheVariants.{TryRecv, TryRecvFair, TryRecvFrom, TryRecvBatchInto, TryRecvBatchIntoWhile}
use Rattle.model.specs.declared.ControlCall.TheVariants.{Pause, Resume, CloseLane, ReleaseConsumed, PollAllLanes, CloseReceiver, CountHeld}
use Rattle.model.specs.declared.Call.{Call}
use Rattle.model.specs.declared.Call.TheVariants.{Sender, Receive, Control}
use Rattle.model.specs.declared.Refusal.TheVariants.{ReceiverClosed, AtCapacity, NoSuchSender, NoSuchLane, Full, OutputShort}
use Rattle.model.specs.declared.Answer.{Answer}
use Rattle.model.specs.declared.Answer.TheVariants.{Done, Registered, Taken, Item, Items, Stopped, Empty, Disconnected, Held, Refused}
use Rattle.model.specs.State.{State}
use Rattle.model.specs.Runs.{accepted, gives, ends, same_key}
use Rattle.model.specs.Opening.{opened_state}
use Rattle.model.specs.Rules.{outcome}
use Rattle.model.specs.Ledger.{at_opening, change_lane, add_item, remove_oldest, set_paused, set_closed, set_dropped, add_registered, apply_call, note, ledger_after}
use Rattle.model.specs.Stretch.{looks, finds_nothing, looks_in_vain}
use Rattle.model.specs.Wake.{items_below, below_limit, may_sleep, while_asleep, ends_sleep, sends_to, says_woken, wakes, paused_in}
use Rattle.model.specs.Examples.Pairs.{Reads}
use Rattle.model.proofs.Examples.Calls.{compute}

-- the key of slot x's lane with generation g
key : ℕ → ℕ → LaneKey
key x g = record { slot = x; generation = g }

id : ℕ → LaneId
id x = record { channel = record { id = 7; opening = 0 }; key = key x 0 }

-- the calls, of lanes of generation 0
registers : Call
registers = Sender (RegisterSender 9)

sends : ℕ → Call
sends x = Sender (TrySend (key x 0) 5)

unsignalled : ℕ → Call
unsignalled x = Sender (TrySendUnsignaled (key x 0) 5)

drops : ℕ → Call
drops x = Sender (DropSender (key x 0))

plain : Call
plain = Receive TryRecv

fair : Call
fair = Receive TryRecvFair

batch : ℕ → Call
batch limit = Receive (TryRecvBatchInto limit 9)

batch_while : ℕ → Call
batch_while limit = Receive (TryRecvBatchIntoWhile limit 5 9)

targeted : ℕ → Call
targeted x = Receive (TryRecvFrom (id x))

pauses : ℕ → Call
pauses x = Control (Pause (id x))

resumes : ℕ → Call
resumes x = Control (Resume (id x))

closes : ℕ → Call
closes x = Control (CloseLane (id x))

held : Call
held = Control CountHeld

compute_wake : Unit {0}
unfolding compute key id registers sends unsignalled drops plain fair batch batch_while targeted pauses resumes closes held accepted same_key at_opening change_lane add_item remove_oldest set_paused set_closed set_dropped add_registered apply_call note ledger_after looks finds_nothing looks_in_vain items_below below_limit may_sleep while_asleep ends_sleep sends_to says_woken wakes paused_in
compute_wake = tt

-- ---- after which answers a receiver may sleep

sleeps_read :
    Reads {A = Call × Answer} (λ e. may_sleep e.0 e.1)
    (((plain, Empty), true)
    ∷ ((plain, Disconnected), true)
    ∷ ((plain, Item 5 (id 0)), false)
    ∷ ((plain, Refused ReceiverClosed), false)
    ∷ ((fair, Empty), true)
    ∷ ((fair, Disconnected), true)
    ∷ ((fair, Item 5 (id 0)), false)
    ∷ ((fair, Refused ReceiverClosed), false)
    ∷ ((batch 3, Empty), true)
    ∷ ((batch 3, Disconnected), true)
    ∷ ((batch 3, Items 1), true)
    ∷ ((batch 3, Items 2), true)
    ∷ ((batch 3, Items 3), false)
    ∷ ((batch 200, Items 199), true)
    ∷ ((batch 200, Items 200), false)
    ∷ ((batch 3, Refused OutputShort), false)
    ∷ ((batch 0, Items 0), false)
    -- N2: one that stopped has an item next
    ∷ ((batch_while 3, Items 2), true)
    ∷ ((batch_while 3, Items 3), false)
    ∷ ((batch_while 3, Empty), true)
    ∷ ((batch_while 3, Stopped 2), false)
    ∷ ((batch_while 3, Stopped 0), false)
    ∷ ((targeted 0, Empty), false)
    ∷ ((targeted 0, Disconnected), false)
    ∷ ((targeted 0, Item 5 (id 0)), false)
    ∷ ((targeted 0, Refused NoSuchLane), false)
    ∷ ((registers, Registered (key 0 0)), false)
    ∷ ((sends 0, Taken true 3), false)
    ∷ ((unsignalled 0, Taken false 3), false)
    ∷ ((drops 0, Done), false)
    ∷ ((Control PollAllLanes, Done), false)
    ∷ ((held, Held 0), false)
    ∷ [])
unfolding compute_wake
sleeps_read = refl

-- ---- what ends the sleep, and what does not

sleep_ends_read :
    Reads ends_sleep
    ((ends registers (Registered (key 0 0)), false)
    ∷ (ends registers (Refused AtCapacity), false)
    ∷ (ends (sends 0) (Taken true 3), false)
    ∷ (ends (sends 0) (Refused Full), false)
    ∷ (ends (unsignalled 0) (Taken false 3), false)
    ∷ (ends (unsignalled 1) (Taken false 3), false)
    ∷ (ends (unsignalled 0) (Refused Full), false)
    ∷ (ends (drops 0) Done, false)
    ∷ (ends (drops 0) (Refused NoSuchSender), false)
    ∷ (ends held (Held 1), false)
    ∷ (ends plain Empty, true)
    ∷ (ends fair Empty, true)
    ∷ (ends (batch 0) (Items 0), true)
    ∷ (ends (targeted 0) Empty, true)
    ∷ (ends plain (Refused ReceiverClosed), true)
    ∷ (ends (pauses 0) Done, true)
    ∷ (ends (resumes 0) Done, true)
    ∷ (ends (closes 0) Done, true)
    ∷ (ends (Control ReleaseConsumed) Done, true)
    ∷ (ends (Control PollAllLanes) Done, true)
    ∷ (ends (Control CloseReceiver) Done, true)
    ∷ (gives TryRecv (key 0 0) 5, true)
    ∷ [])
unfolding compute_wake
sleep_ends_read = refl

-- ---- an accepted ordinary send to lane 1, and whether it answers woken 1

sent_to_one_read :
    Reads {B = Bool × Bool} (λ t. (sends_to (key 1 0) t, wakes t))
    ((ends (sends 1) (Taken true 3), (true, true))
    ∷ (ends (sends 1) (Taken false 3), (true, false))
    ∷ (ends (sends 1) (Refused Full), (false, false))
    ∷ (ends (sends 0) (Taken true 3), (false, true))
    ∷ (ends (Sender (TrySend (key 1 1) 5)) (Taken true 3), (false, true))
    ∷ (ends (unsignalled 1) (Taken false 3), (false, false))
    ∷ (ends registers (Registered (key 1 0)), (false, false))
    ∷ (ends (drops 1) Done, (false, false))
    ∷ (ends plain Empty, (false, false))
    ∷ (ends held (Held 1), (false, false))
    ∷ (gives TryRecv (key 1 0) 5, (false, false))
    ∷ [])
unfolding compute_wake
sent_to_one_read = refl

-- ---- whether lane 1 is paused, after lanes 0 and 1 were registered and then this happened

paused_one_read :
    Reads (λ ts. paused_in (key 1 0) (ledger_after at_opening (ends registers (Registered (key 0 0)) ∷ ends registers (Registered (key 1 0)) ∷ ts)).lanes)
    (([], false)
    ∷ (ends (sends 1) (Taken true 3) ∷ [], false)
    ∷ (ends (unsignalled 1) (Taken false 3) ∷ [], false)
    ∷ (ends (pauses 1) Done ∷ [], true)
    ∷ (ends (pauses 1) (Refused NoSuchLane) ∷ [], false)
    ∷ (ends (pauses 0) Done ∷ [], false)
    ∷ (ends (pauses 1) Done ∷ ends (resumes 1) Done ∷ [], false)
    ∷ (ends (pauses 1) Done ∷ ends (resumes 1) (Refused NoSuchLane) ∷ [], true)
    ∷ (ends (pauses 1) Done ∷ ends (resumes 0) Done ∷ [], true)
    ∷ (ends (pauses 1) Done ∷ ends (sends 1) (Taken true 3) ∷ ends (drops 1) Done ∷ [], true)
    ∷ (ends registers (Registered (key 1 1)) ∷ ends (Control (Pause record { channel = record { id = 7; opening = 0 }; key = key 1 1 })) Done ∷ [], false)
    ∷ [])
unfolding compute_wake
paused_one_read = refl

-- a lane that is registered later is not paused
later_unpaused : paused_in (key 1 0) (ledger_after at_opening (ends registers (Registered (key 0 0)) ∷ [])).lanes ≡ false
unfolding compute_wake
later_unpaused = refl

-- ---- what the last call of a run answers: capacity 2, three slots

last_answer : State → Call → List Call → Answer
last_answer s c [] = (outcome s c).1.0
last_answer s c (d ∷ cs) = last_answer (outcome s c).1.1 d cs

-- registers lane 0, and then this
answered : List Call → Answer
answered calls = last_answer (opened_state record { capacity = 2; slots = 3; channel = 7; cursor = 0; generation = 0; number = 0 }) registers calls

-- the receiver may sleep, and the next ordinary send to an unpaused lane wakes it
woken_read :
    Reads answered
    ((plain ∷ sends 0 ∷ [], Taken true 1)
    ∷ (fair ∷ sends 0 ∷ [], Taken true 1)
    ∷ (batch 1 ∷ sends 0 ∷ [], Taken true 1)
    ∷ (drops 0 ∷ plain ∷ registers ∷ Sender (TrySend (key 0 1) 5) ∷ [], Taken true 1)
    -- a batch of one item less than its limit
    ∷ (sends 0 ∷ batch 2 ∷ sends 0 ∷ [], Taken true 1)
    ∷ (sends 0 ∷ batch_while 2 ∷ sends 0 ∷ [], Taken true 1)
    ∷ (registers ∷ sends 0 ∷ sends 1 ∷ batch 3 ∷ sends 1 ∷ [], Taken true 1)
    -- while it sleeps: an unsignalled send, a refused one, a drop, held, a send to a paused lane
    ∷ (plain ∷ unsignalled 0 ∷ sends 0 ∷ [], Taken true 0)
    ∷ (plain ∷ Sender (TrySend (key 0 1) 5) ∷ sends 0 ∷ [], Taken true 1)
    ∷ (registers ∷ plain ∷ drops 1 ∷ sends 0 ∷ [], Taken true 1)
    ∷ (plain ∷ held ∷ sends 0 ∷ [], Taken true 1)
    ∷ (registers ∷ pauses 1 ∷ plain ∷ sends 1 ∷ sends 0 ∷ [], Taken true 1)
    -- a lane registered while it sleeps, also in a freed slot whose page bit is set: a drop has marked it
    ∷ (plain ∷ registers ∷ sends 1 ∷ [], Taken true 1)
    ∷ (closes 0 ∷ plain ∷ drops 0 ∷ registers ∷ Sender (TrySend (key 0 1) 5) ∷ [], Taken true 1)
    -- and of each lane the first
    ∷ (registers ∷ plain ∷ sends 0 ∷ sends 1 ∷ [], Taken true 1)
    ∷ [])
unfolding compute_wake last_answer answered
woken_read = refl

-- where a word less were asked for, the next send to the lane need not wake
unwoken_read :
    Reads answered
    -- no look at all; a single item; a batch that reached its limit; one of limit 0; one that stopped; a targeted receive that answered Empty
    ((sends 0 ∷ sends 0 ∷ [], Taken false 0)
    ∷ (sends 0 ∷ plain ∷ sends 0 ∷ [], Taken false 0)
    ∷ (sends 0 ∷ fair ∷ sends 0 ∷ [], Taken false 0)
    ∷ (sends 0 ∷ batch 1 ∷ sends 0 ∷ [], Taken false 1)
    ∷ (sends 0 ∷ batch 0 ∷ sends 0 ∷ [], Taken false 0)
    ∷ (sends 0 ∷ Receive (TryRecvBatchIntoWhile 3 4 9) ∷ sends 0 ∷ [], Taken false 0)
    ∷ (registers ∷ sends 0 ∷ targeted 1 ∷ sends 0 ∷ [], Taken false 0)
    -- the second send; a send to a paused lane; one after another call of the receiver
    ∷ (plain ∷ sends 0 ∷ sends 0 ∷ [], Taken false 0)
    ∷ (sends 0 ∷ pauses 0 ∷ plain ∷ sends 0 ∷ [], Taken false 0)
    ∷ (pauses 0 ∷ plain ∷ resumes 0 ∷ sends 0 ∷ [], Taken false 1)
    -- an unsignalled send, and a drop
    ∷ (plain ∷ unsignalled 0 ∷ [], Taken false 1)
    ∷ (plain ∷ drops 0 ∷ [], Done)
    -- a send that is not accepted: unsignalled sends, which wake nobody, have filled the ring
    ∷ (plain ∷ unsignalled 0 ∷ unsignalled 0 ∷ sends 0 ∷ [], Refused Full)
    ∷ [])
unfolding compute_wake last_answer answered
unwoken_read = refl

-- ---- what a drop does: it wakes nobody, and a look that has an item need not see it; one that answers Empty has

drop_seen_read :
    Reads answered
    -- lane 1 is dropped and counts against the most lanes, 2, over a look that gives lane 0's item;
    ((registers ∷ sends 0 ∷ sends 0 ∷ plain ∷ drops 1 ∷ plain ∷ Sender (RegisterSender 2) ∷ [], Refused AtCapacity)
    -- the next look answers Empty, and the lane is retired
    ∷ (registers ∷ sends 0 ∷ sends 0 ∷ plain ∷ drops 1 ∷ plain ∷ plain ∷ [], Empty)
    ∷ (registers ∷ sends 0 ∷ sends 0 ∷ plain ∷ drops 1 ∷ plain ∷ plain ∷ Sender (RegisterSender 2) ∷ [], Registered (key 1 1))
    -- all senders dropped: after a batch of fewer items the next look answers Disconnected; with an item in a paused lane every look answers Empty
    ∷ (sends 0 ∷ drops 0 ∷ batch 3 ∷ [], Items 1)
    ∷ (sends 0 ∷ drops 0 ∷ batch 3 ∷ plain ∷ [], Disconnected)
    ∷ (sends 0 ∷ pauses 0 ∷ drops 0 ∷ batch 3 ∷ [], Empty)
    ∷ (sends 0 ∷ pauses 0 ∷ drops 0 ∷ batch 3 ∷ plain ∷ fair ∷ [], Empty)
    ∷ [])
unfolding compute_wake last_answer answered
drop_seen_read = refl
