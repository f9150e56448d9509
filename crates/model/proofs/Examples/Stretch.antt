-- The words of demands 2 and 3 on one of each thing that can happen in a run, computed: where lane 1's stretch may begin, what ends it, what looks in vain, what is counted, and how much is allowed.
-- Assumes nothing.
use Rattle.std.specs.Prelude.{refl, Bool, true, false, List, [], ◌∷◌, ℕ}
use Rattle.model.specs.declared.LaneKey.{LaneKey}
use Rattle.model.specs.declared.LaneId.{LaneId}
use Rattle.model.specs.declared.SenderCall.TheVariants.{RegisterSender, TrySend, TrySendUnsignaled, DropSender}
use Rattle.model.specs.declared.ReceiveCall.TheVariants.{TryRecv, TryRecvFair, TryRecvFrom, TryRecvBatchInto, TryRecvBatchIntoWhile}
use Rattle.model.specs.declared.ControlCall.TheVariants.{Pause, Resume, CloseLane, ReleaseConsumed, PollAllLanes, CloseReceiver, CountHeld}
use Rattle.model.specs.declared.Call.TheVariants.{Sender, Receive, Control}
use Rattle.model.specs.declared.Refusal.TheVariants.{ReceiverClosed, NoSuchLane, Full}
use Rattle.model.specs.declared.Answer.TheVariants.{Done, Registered, Taken, Item, Items, Stopped, Empty, Disconnected, Held, Refused}
use Rattle.model.specs.Ready.{groups_in}
use Rattle.model.specs.Runs.{accepted, Tick, gives, ends, same_key}
use Rattle.model.specs.Ledger.{Lane, Ledger, at_opening, change_lane, add_item, remove_oldest, set_paused, set_closed, set_dropped, add_registered, apply_call, note, ledger_after, any_ordinary, waits_in, waits, is_live, live_lanes}
use Rattle.model.specs.Stretch.{ends_wait, ends_stretch, looks, finds_nothing, looks_in_vain, untargeted, other_receive, not_fair, after_calls, most_live, groups_at}
use Rattle.model.specs.Demand2.{out_of, into, shuts, HasRoom}
use Rattle.model.specs.Demand3.{bound}
use Rattle.model.specs.Examples.Pairs.{Reads, Always}

unfoldable pub lane : ℕ → LaneKey
lane x = record { slot = x; generation = 0 }

unfoldable pub lane_id : ℕ → LaneId
lane_id x = record { channel = record { id = 7; opening = 0 }; key = lane x }

-- the words of the demands, for computing with them
compute_stretch : Unit {0}
unfolding lane lane_id accepted same_key ends_wait ends_stretch looks finds_nothing looks_in_vain untargeted other_receive not_fair out_of into shuts
compute_stretch = tt

-- ---- items that are given, five of lane 0 and one of lane 1

-- "until the lane's next item is handed out": lane 1's
given_ends_stretch :
    Reads (ends_stretch (lane 1))
    ((gives TryRecv (lane 0) 5, false)
    ∷ (gives TryRecvFair (lane 0) 5, false)
    ∷ (gives (TryRecvFrom (lane_id 0)) (lane 0) 5, false)
    ∷ (gives (TryRecvBatchInto 2 2) (lane 0) 5, false)
    ∷ (gives (TryRecvBatchIntoWhile 2 5 2) (lane 0) 5, false)
    ∷ (gives TryRecv (lane 1) 6, true)
    ∷ [])
unfolding compute_stretch
given_ends_stretch = refl

-- "untargeted receives"
given_untargeted :
    Reads untargeted
    ((gives TryRecv (lane 0) 5, true)
    ∷ (gives TryRecvFair (lane 0) 5, true)
    ∷ (gives (TryRecvFrom (lane_id 0)) (lane 0) 5, false)
    ∷ (gives (TryRecvBatchInto 2 2) (lane 0) 5, true)
    ∷ (gives (TryRecvBatchIntoWhile 2 5 2) (lane 0) 5, true)
    ∷ (gives TryRecv (lane 1) 6, true)
    ∷ [])
unfolding compute_stretch
given_untargeted = refl

-- "are all fair": what is not
given_not_fair :
    Reads not_fair
    ((gives TryRecv (lane 0) 5, true)
    ∷ (gives TryRecvFair (lane 0) 5, false)
    ∷ (gives (TryRecvFrom (lane_id 0)) (lane 0) 5, true)
    ∷ (gives (TryRecvBatchInto 2 2) (lane 0) 5, true)
    ∷ (gives (TryRecvBatchIntoWhile 2 5 2) (lane 0) 5, true)
    ∷ (gives TryRecv (lane 1) 6, true)
    ∷ [])
unfolding compute_stretch
given_not_fair = refl

-- "items handed out of a lane", of lane 1
given_out_of :
    Reads (out_of (lane 1))
    ((gives TryRecv (lane 0) 5, [])
    ∷ (gives TryRecvFair (lane 0) 5, [])
    ∷ (gives (TryRecvFrom (lane_id 0)) (lane 0) 5, [])
    ∷ (gives (TryRecvBatchInto 2 2) (lane 0) 5, [])
    ∷ (gives (TryRecvBatchIntoWhile 2 5 2) (lane 0) 5, [])
    ∷ (gives TryRecv (lane 1) 6, (6 ∷ []))
    ∷ [])
unfolding compute_stretch
given_out_of = refl

-- ---- receives that end, with each kind of answer

-- "no plain, fair or non-zero batch receive answers Empty or Disconnected"
received_in_vain :
    Reads looks_in_vain
    ((ends (Receive TryRecv) Empty, true)
    ∷ (ends (Receive TryRecv) Disconnected, true)
    ∷ (ends (Receive TryRecvFair) Empty, true)
    ∷ (ends (Receive TryRecvFair) Disconnected, true)
    ∷ (ends (Receive (TryRecvBatchInto 1 1)) Empty, true)
    ∷ (ends (Receive (TryRecvBatchInto 1 1)) Disconnected, true)
    ∷ (ends (Receive (TryRecvBatchInto 0 1)) (Items 0), false)
    ∷ (ends (Receive (TryRecvBatchIntoWhile 1 5 1)) Empty, true)
    ∷ (ends (Receive (TryRecvBatchIntoWhile 1 5 1)) Disconnected, true)
    ∷ (ends (Receive (TryRecvBatchIntoWhile 1 5 1)) (Stopped 0), false)
    ∷ (ends (Receive (TryRecvBatchIntoWhile 0 5 1)) (Items 0), false)
    ∷ (ends (Receive (TryRecvFrom (lane_id 0))) Empty, false)
    ∷ (ends (Receive TryRecvFair) (Item 5 (lane_id 0)), false)
    ∷ (ends (Receive TryRecv) (Refused ReceiverClosed), false)
    ∷ [])
unfolding compute_stretch
received_in_vain = refl

-- "refused ones aside, are all fair": what is not
received_not_fair :
    Reads not_fair
    ((ends (Receive TryRecv) Empty, true)
    ∷ (ends (Receive TryRecv) Disconnected, true)
    ∷ (ends (Receive TryRecvFair) Empty, false)
    ∷ (ends (Receive TryRecvFair) Disconnected, false)
    ∷ (ends (Receive (TryRecvBatchInto 1 1)) Empty, true)
    ∷ (ends (Receive (TryRecvBatchInto 1 1)) Disconnected, true)
    ∷ (ends (Receive (TryRecvBatchInto 0 1)) (Items 0), true)
    ∷ (ends (Receive (TryRecvBatchIntoWhile 1 5 1)) Empty, true)
    ∷ (ends (Receive (TryRecvBatchIntoWhile 1 5 1)) (Stopped 0), true)
    ∷ (ends (Receive (TryRecvFrom (lane_id 0))) Empty, true)
    ∷ (ends (Receive TryRecvFair) (Item 5 (lane_id 0)), false)
    ∷ (ends (Receive TryRecv) (Refused ReceiverClosed), false)
    ∷ [])
unfolding compute_stretch
received_not_fair = refl

-- no receive's end is the end of lane 1's stretch
received_ends_none :
    Always (ends_stretch (lane 1)) false
    (ends (Receive TryRecv) Empty
    ∷ ends (Receive TryRecv) Disconnected
    ∷ ends (Receive TryRecvFair) Empty
    ∷ ends (Receive TryRecvFair) Disconnected
    ∷ ends (Receive (TryRecvBatchInto 1 1)) Empty
    ∷ ends (Receive (TryRecvBatchInto 1 1)) Disconnected
    ∷ ends (Receive (TryRecvBatchInto 0 1)) (Items 0)
    ∷ ends (Receive (TryRecvBatchIntoWhile 1 5 1)) Empty
    ∷ ends (Receive (TryRecvBatchIntoWhile 1 5 1)) (Stopped 0)
    ∷ ends (Receive (TryRecvFrom (lane_id 0))) Empty
    ∷ ends (Receive TryRecvFair) (Item 5 (lane_id 0))
    ∷ ends (Receive TryRecv) (Refused ReceiverClosed)
    ∷ [])
unfolding compute_stretch
received_ends_none = refl

-- ---- the other calls, accepted and refused, of lane 1 and of others

-- "the lane is paused or closed, the receiver is closed": lane 1
others_ends_stretch :
    Reads (ends_stretch (lane 1))
    ((ends (Sender (RegisterSender 9)) (Registered (lane 2)), false)
    ∷ (ends (Sender (TrySend (lane 1) 6)) (Taken true 3), false)
    ∷ (ends (Sender (TrySendUnsignaled (lane 1) 7)) (Taken false 3), false)
    ∷ (ends (Sender (TrySend (lane 1) 8)) (Refused Full), false)
    ∷ (ends (Sender (DropSender (lane 1))) Done, false)
    ∷ (ends (Control (Pause (lane_id 1))) Done, true)
    ∷ (ends (Control (Pause (lane_id 1))) (Refused NoSuchLane), false)
    ∷ (ends (Control (Pause (lane_id 0))) Done, false)
    ∷ (ends (Control (Resume (lane_id 1))) Done, false)
    ∷ (ends (Control (CloseLane (lane_id 1))) Done, true)
    ∷ (ends (Control (CloseLane (lane_id 1))) (Refused NoSuchLane), false)
    ∷ (ends (Control (CloseLane (lane_id 0))) Done, false)
    ∷ (ends (Control ReleaseConsumed) Done, false)
    ∷ (ends (Control PollAllLanes) Done, false)
    ∷ (ends (Control CloseReceiver) Done, true)
    ∷ (ends (Control CloseReceiver) (Refused ReceiverClosed), false)
    ∷ (ends (Control CountHeld) (Held 1), false)
    ∷ [])
unfolding compute_stretch
others_ends_stretch = refl

-- "a lane never closed": what closes lane 1
others_shuts :
    Reads (shuts (lane 1))
    ((ends (Sender (RegisterSender 9)) (Registered (lane 2)), false)
    ∷ (ends (Sender (TrySend (lane 1) 6)) (Taken true 3), false)
    ∷ (ends (Sender (TrySendUnsignaled (lane 1) 7)) (Taken false 3), false)
    ∷ (ends (Sender (TrySend (lane 1) 8)) (Refused Full), false)
    ∷ (ends (Sender (DropSender (lane 1))) Done, false)
    ∷ (ends (Control (Pause (lane_id 1))) Done, false)
    ∷ (ends (Control (Pause (lane_id 1))) (Refused NoSuchLane), false)
    ∷ (ends (Control (Pause (lane_id 0))) Done, false)
    ∷ (ends (Control (Resume (lane_id 1))) Done, false)
    ∷ (ends (Control (CloseLane (lane_id 1))) Done, true)
    ∷ (ends (Control (CloseLane (lane_id 1))) (Refused NoSuchLane), false)
    ∷ (ends (Control (CloseLane (lane_id 0))) Done, false)
    ∷ (ends (Control ReleaseConsumed) Done, false)
    ∷ (ends (Control PollAllLanes) Done, false)
    ∷ (ends (Control CloseReceiver) Done, false)
    ∷ (ends (Control CloseReceiver) (Refused ReceiverClosed), false)
    ∷ (ends (Control CountHeld) (Held 1), false)
    ∷ [])
unfolding compute_stretch
others_shuts = refl

-- "its accepted sends", lane 1's
others_into :
    Reads (into (lane 1))
    ((ends (Sender (RegisterSender 9)) (Registered (lane 2)), [])
    ∷ (ends (Sender (TrySend (lane 1) 6)) (Taken true 3), (6 ∷ []))
    ∷ (ends (Sender (TrySendUnsignaled (lane 1) 7)) (Taken false 3), (7 ∷ []))
    ∷ (ends (Sender (TrySend (lane 1) 8)) (Refused Full), [])
    ∷ (ends (Sender (DropSender (lane 1))) Done, [])
    ∷ (ends (Control (Pause (lane_id 1))) Done, [])
    ∷ (ends (Control (Pause (lane_id 1))) (Refused NoSuchLane), [])
    ∷ (ends (Control (Pause (lane_id 0))) Done, [])
    ∷ (ends (Control (Resume (lane_id 1))) Done, [])
    ∷ (ends (Control (CloseLane (lane_id 1))) Done, [])
    ∷ (ends (Control (CloseLane (lane_id 1))) (Refused NoSuchLane), [])
    ∷ (ends (Control (CloseLane (lane_id 0))) Done, [])
    ∷ (ends (Control ReleaseConsumed) Done, [])
    ∷ (ends (Control PollAllLanes) Done, [])
    ∷ (ends (Control CloseReceiver) Done, [])
    ∷ (ends (Control CloseReceiver) (Refused ReceiverClosed), [])
    ∷ (ends (Control CountHeld) (Held 1), [])
    ∷ [])
unfolding compute_stretch
others_into = refl

-- none is a receive, and so none is one that is not fair
others_not_fair :
    Always not_fair false
    (ends (Sender (RegisterSender 9)) (Registered (lane 2))
    ∷ ends (Sender (TrySend (lane 1) 6)) (Taken true 3)
    ∷ ends (Sender (TrySendUnsignaled (lane 1) 7)) (Taken false 3)
    ∷ ends (Sender (TrySend (lane 1) 8)) (Refused Full)
    ∷ ends (Sender (DropSender (lane 1))) Done
    ∷ ends (Control (Pause (lane_id 1))) Done
    ∷ ends (Control (Pause (lane_id 1))) (Refused NoSuchLane)
    ∷ ends (Control (Pause (lane_id 0))) Done
    ∷ ends (Control (Resume (lane_id 1))) Done
    ∷ ends (Control (CloseLane (lane_id 1))) Done
    ∷ ends (Control (CloseLane (lane_id 1))) (Refused NoSuchLane)
    ∷ ends (Control (CloseLane (lane_id 0))) Done
    ∷ ends (Control ReleaseConsumed) Done
    ∷ ends (Control PollAllLanes) Done
    ∷ ends (Control CloseReceiver) Done
    ∷ ends (Control CloseReceiver) (Refused ReceiverClosed)
    ∷ ends (Control CountHeld) (Held 1)
    ∷ [])
unfolding compute_stretch
others_not_fair = refl

-- of all kinds of answers two find nothing
answers_read :
    Reads finds_nothing
    ((Done, false)
    ∷ (Registered (lane 2), false)
    ∷ (Taken true 3, false)
    ∷ (Item 5 (lane_id 0), false)
    ∷ (Items 0, false)
    ∷ (Stopped 0, false)
    ∷ (Empty, true)
    ∷ (Disconnected, true)
    ∷ (Held 1, false)
    ∷ (Refused Full, false)
    ∷ [])
unfolding compute_stretch
answers_read = refl

-- an output of three words is the room 3
has_room : HasRoom (TryRecvBatchInto 2 3) (90 ∷ 91 ∷ 92 ∷ []) × (HasRoom (TryRecvBatchIntoWhile 2 5 3) (90 ∷ 91 ∷ 92 ∷ []) × (HasRoom TryRecv [] × (HasRoom TryRecvFair [] × HasRoom (TryRecvFrom (lane_id 0)) [])))
unfolding HasRoom
has_room = (refl, (refl, (tt, (tt, tt))))

-- ---- where the stretch of lane 1 may begin

unfoldable pub registered : ℕ → Tick
registered x = ends (Sender (RegisterSender 9)) (Registered (lane x))

-- an item sent ordinarily to lane x, to one that is idle and to one that is pending already, and one sent unsignalled
sent : ℕ → Tick
sent x = ends (Sender (TrySend (lane x) 6)) (Taken true 3)

sent_again : ℕ → Tick
sent_again x = ends (Sender (TrySend (lane x) 8)) (Taken false 3)

unsignalled : ℕ → Tick
unsignalled x = ends (Sender (TrySendUnsignaled (lane x) 7)) (Taken false 3)

dropped : ℕ → Tick
dropped x = ends (Sender (DropSender (lane x))) Done

paused : ℕ → Tick
paused x = ends (Control (Pause (lane_id x))) Done

resumed : ℕ → Tick
resumed x = ends (Control (Resume (lane_id x))) Done

closed : ℕ → Tick
closed x = ends (Control (CloseLane (lane_id x))) Done

shut : Tick
shut = ends (Control CloseReceiver) Done

-- an item of lane x is handed out
handed_out : ℕ → Tick
handed_out x = gives TryRecv (lane x) 5

-- lanes 0 and 1 are registered, and then ts happens
point_after : List Tick → Ledger
point_after ts = ledger_after at_opening (registered 0 ∷ registered 1 ∷ ts)

compute_points : Unit {0}
unfolding compute_stretch registered sent sent_again unsignalled dropped paused resumed closed shut handed_out point_after at_opening change_lane add_item remove_oldest set_paused set_closed set_dropped add_registered apply_call note ledger_after any_ordinary waits_in waits is_live live_lanes after_calls most_live groups_in groups_at
compute_points = tt

waits_after : List Tick → Bool
waits_after ts = waits (lane 1) (point_after ts)

-- an ordinarily sent item, whatever stands before or behind it, until it is handed out
waits_by_items :
    Reads waits_after
    (([], false)
    ∷ (sent 1 ∷ [], true)
    ∷ (unsignalled 1 ∷ [], false)
    ∷ (unsignalled 1 ∷ sent 1 ∷ [], true)
    ∷ (sent 1 ∷ unsignalled 1 ∷ [], true)
    ∷ (sent 0 ∷ [], false)
    ∷ (sent 1 ∷ handed_out 1 ∷ [], false)
    ∷ (sent 1 ∷ handed_out 0 ∷ [], true)
    ∷ (unsignalled 1 ∷ sent 1 ∷ handed_out 1 ∷ [], true)
    ∷ (sent 1 ∷ unsignalled 1 ∷ handed_out 1 ∷ [], false)
    ∷ (ends (Sender (TrySend (lane 1) 8)) (Refused Full) ∷ [], false)
    ∷ [])
unfolding compute_points waits_after
waits_by_items = refl

-- "an ordinarily sent item", whether its send woke the receiver or not
waits_unwoken :
    Reads waits_after
    ((sent_again 1 ∷ [], true)
    ∷ (sent 1 ∷ sent_again 1 ∷ handed_out 1 ∷ [], true)
    ∷ (sent 1 ∷ sent_again 1 ∷ handed_out 1 ∷ handed_out 1 ∷ [], false)
    ∷ (unsignalled 1 ∷ sent_again 1 ∷ handed_out 1 ∷ [], true)
    ∷ [])
unfolding compute_points waits_after
waits_unwoken = refl

-- what may follow an item that waits: a pause, a resume, closing the lane or the receiver, dropping the sender; the same refused, or of another lane
waits_by_calls :
    Reads waits_after
    ((sent 1 ∷ paused 1 ∷ [], false)
    ∷ (sent 1 ∷ paused 1 ∷ resumed 1 ∷ [], true)
    ∷ (sent 1 ∷ closed 1 ∷ [], false)
    ∷ (sent 1 ∷ shut ∷ [], false)
    ∷ (sent 1 ∷ dropped 1 ∷ [], true)
    ∷ (sent 1 ∷ ends (Control (Pause (lane_id 1))) (Refused NoSuchLane) ∷ [], true)
    ∷ (sent 1 ∷ ends (Control (CloseLane (lane_id 1))) (Refused NoSuchLane) ∷ [], true)
    ∷ (sent 1 ∷ ends (Control CloseReceiver) (Refused ReceiverClosed) ∷ [], true)
    ∷ (sent 1 ∷ paused 0 ∷ closed 0 ∷ [], true)
    ∷ (sent 1 ∷ paused 1 ∷ resumed 0 ∷ [], false)
    ∷ [])
unfolding compute_points waits_after
waits_by_calls = refl

-- ---- R, G and the bound

-- a lane, unclosed or closed, with its sender undropped or dropped: without an item, and with one unsignalled item
bare : Bool → Bool → Bool → Lane
bare p c d = record { key = lane 1; holds = []; paused = p; closed = c; dropped = d }

holding : Bool → Bool → Bool → Lane
holding p c d = record { key = lane 1; holds = record { value = 7; ordinary = false } ∷ []; paused = p; closed = c; dropped = d }

-- "unclosed and either hold an item or have their sender undropped"; a pause does not matter
live_read :
    (p : Bool) → let closed = true in let dropped = true in
    Reads is_live
    ((bare p false false, true)
    ∷ (bare p false dropped, false)
    ∷ (holding p false false, true)
    ∷ (holding p false dropped, true)
    ∷ (bare p closed false, false)
    ∷ (bare p closed dropped, false)
    ∷ (holding p closed false, false)
    ∷ (holding p closed dropped, false)
    ∷ [])
unfolding compute_points bare holding
live_read p = refl

-- from two live lanes on: an empty stretch, one that ends with fewer, one with more, one with more on the way only, and two that are live one after the other
most_live_read :
    Reads (most_live (point_after []))
    (([], 2)
    ∷ (dropped 0 ∷ [], 2)
    ∷ (registered 2 ∷ [], 3)
    ∷ (registered 2 ∷ dropped 2 ∷ dropped 0 ∷ [], 3)
    ∷ (dropped 0 ∷ registered 2 ∷ [], 2)
    ∷ [])
unfolding compute_points
most_live_read = refl

-- with the slot issued last, 1, 4,096, 4,097, 8,192 and 8,193 slots are; slot 0, registered again after that, changes nothing
groups_issued : ℕ → ℕ
groups_issued x = groups_at (ledger_after at_opening (registered x ∷ registered 0 ∷ []))

groups_read :
    Reads groups_issued
    ((0, 1)
    ∷ (4095, 1)
    ∷ (4096, 2)
    ∷ (8191, 2)
    ∷ (8192, 3)
    ∷ [])
unfolding compute_points groups_issued
groups_read = refl

-- "64 × (G + R - 1)": G and R, one group and two, of 1, 2, 3 and 4 lanes
bound_read :
    Reads (λ (p : ℕ × ℕ). bound p.0 p.1)
    (((1, 1), 64)
    ∷ ((1, 2), 128)
    ∷ ((1, 3), 192)
    ∷ ((1, 4), 256)
    ∷ ((2, 1), 128)
    ∷ ((2, 2), 192)
    ∷ ((2, 3), 256)
    ∷ ((2, 4), 320)
    ∷ [])
unfolding bound
bound_read = refl
