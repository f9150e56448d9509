-- Where receives end: what each asks for, and how many items it hands out beside what is then queued and ready.
-- Assumes nothing.
use Rattle.std.specs.Prelude.{refl, Bool, List, [], ◌∷◌, ℕ, length}
use Rattle.std.proofs.Common.{ap, arith}
use Rattle.model.specs.declared.LaneKey.{LaneKey}
use Rattle.model.specs.declared.LaneId.{LaneId}
use Rattle.model.specs.declared.SenderCall.TheVariants.{RegisterSender, TrySend, DropSender}
use Rattle.model.specs.declared.ReceiveCall.{ReceiveCall}
use Rattle.model.specs.declared.ReceiveCall.TheVariants.{TryRecv, TryRecvFair, TryRecvFrom, TryRecvBatchInto, TryRecvBatchIntoWhile}
use Rattle.model.specs.declared.ControlCall.TheVariants.{Pause}
use Rattle.model.specs.declared.Call.{Call}
use Rattle.model.specs.declared.Call.TheVariants.{Sender, Receive, Control}
use Rattle.model.specs.Lists.{if, keep, from}
use Rattle.model.specs.State.{State}
use Rattle.model.specs.Runs.{after_list}
use Rattle.model.specs.Receive.{receive_outcome}
use Rattle.model.specs.Opening.{opened_state}
use Rattle.model.specs.Rules.{the_rules}
use Rattle.model.specs.PollLoop.{NothingLeft}
use Rattle.model.specs.ReceivesEnd.{items_asked}
use Rattle.model.specs.Examples.Pairs.{Reads}
use Rattle.model.proofs.Examples.Calls.{compute}

lane : ℕ → LaneKey
lane x = record { slot = x; generation = 0 }

lane_id : ℕ → LaneId
lane_id x = record { channel = record { id = 7; opening = 0 }; key = lane x }

registers : Call
registers = Sender (RegisterSender 2)

sends : ℕ → Call
sends x = Sender (TrySend (lane x) 5)

drops : ℕ → Call
drops x = Sender (DropSender (lane x))

pauses : ℕ → Call
pauses x = Control (Pause (lane_id x))

-- after an opening of two slots and these calls
after : List Call → State
after calls = after_list the_rules (opened_state record { capacity = 4; slots = 2; channel = 7; cursor = 0; generation = 0; number = 0 }) calls

-- how many items a receive then hands out, the slots that are queued after it, and those whose page bit is set
ended : List Call × ReceiveCall → ℕ × List ℕ × List ℕ
ended p =
    let o = receive_outcome (after p.0) p.1 in
    (length o.0, o.1.1.queue, keep (λ x. (o.1.1.slot_of x).marked) (from 0 o.1.1.issued))

-- for computing with them
compute_ends : Unit {0}
unfolding compute lane lane_id registers sends drops pauses after_list after ended items_asked
compute_ends = tt

-- "until it has an item"; "until the limit"
items_asked_read :
    Reads items_asked
    ((TryRecv, 1)
    ∷ (TryRecvFair, 1)
    ∷ (TryRecvFrom (lane_id 0), 1)
    ∷ (TryRecvBatchInto 3 9, 3)
    ∷ (TryRecvBatchIntoWhile 3 5 9, 3)
    ∷ [])
unfolding compute_ends
items_asked_read = refl

-- with what was asked for, or with nothing queued and nothing ready
ended_read :
    Reads ended
    -- an item, of two in one lane: the lane is still queued; and the last one, which leaves it queued too
    (((registers ∷ sends 0 ∷ sends 0 ∷ [], TryRecv), (1, 0 ∷ [], []))
    ∷ ((registers ∷ sends 0 ∷ [], TryRecv), (1, 0 ∷ [], []))
    -- an item, while another lane is ready
    ∷ ((registers ∷ registers ∷ sends 0 ∷ sends 0 ∷ Receive TryRecv ∷ sends 1 ∷ [], TryRecv), (1, 0 ∷ [], 1 ∷ []))
    -- a fair one: the lane goes behind the other
    ∷ ((registers ∷ registers ∷ sends 0 ∷ sends 1 ∷ [], TryRecvFair), (1, 1 ∷ 0 ∷ [], []))
    -- nothing: the empty lane left the queue
    ∷ ((registers ∷ sends 0 ∷ Receive TryRecv ∷ [], TryRecv), (0, [], []))
    ∷ ((registers ∷ sends 0 ∷ Receive TryRecv ∷ [], TryRecvFair), (0, [], []))
    -- a batch to its limit, and one that finds less
    ∷ ((registers ∷ sends 0 ∷ sends 0 ∷ sends 0 ∷ [], TryRecvBatchInto 2 2), (2, 0 ∷ [], []))
    ∷ ((registers ∷ registers ∷ sends 0 ∷ sends 1 ∷ [], TryRecvBatchInto 3 3), (2, [], []))
    -- one with a bound: before an item above it, and to its limit
    ∷ ((registers ∷ registers ∷ sends 0 ∷ sends 1 ∷ [], TryRecvBatchIntoWhile 3 4 3), (0, 0 ∷ 1 ∷ [], []))
    ∷ ((registers ∷ registers ∷ sends 0 ∷ sends 1 ∷ [], TryRecvBatchIntoWhile 1 5 3), (1, 0 ∷ 1 ∷ [], []))
    -- a paused lane is ready and not queued: its page bit is taken
    ∷ ((registers ∷ sends 0 ∷ pauses 0 ∷ [], TryRecv), (0, [], []))
    -- lanes retire: an empty one whose sender is dropped, and an empty paused one
    ∷ ((registers ∷ drops 0 ∷ [], TryRecv), (0, [], []))
    ∷ ((registers ∷ pauses 0 ∷ drops 0 ∷ [], TryRecvBatchInto 3 3), (0, [], []))
    ∷ [])
unfolding compute_ends
ended_read = refl

-- a lane that is queued is left, and so is one that is ready
queued_is_left : NothingLeft (after (registers ∷ sends 0 ∷ Receive TryRecv ∷ [])) → ⊥
unfolding compute_ends
queued_is_left n = omega (arith, ap length n.none_queued)

ready_is_left : NothingLeft (after (registers ∷ sends 0 ∷ [])) → ⊥
unfolding compute_ends
ready_is_left n = omega (arith, ap (λ (b : Bool). if {A = ℕ} b 1 0) (n.none_ready 0))
