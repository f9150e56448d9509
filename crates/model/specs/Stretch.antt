-- Demand 3's stretch, and what is counted in it.
-- Assumes nothing.
use Rattle.std.specs.Prelude.{Bool, true, false, not, List, [], ◌∷◌, ℕ, zero, suc, max}
use Rattle.model.specs.declared.LaneKey.{LaneKey}
use Rattle.model.specs.declared.ReceiveCall.{ReceiveCall}
use Rattle.model.specs.declared.ReceiveCall.TheVariants.{TryRecv, TryRecvFair, TryRecvFrom, TryRecvBatchInto, TryRecvBatchIntoWhile}
use Rattle.model.specs.declared.ControlCall.TheVariants.{Pause, Resume, CloseLane, ReleaseConsumed, PollAllLanes, CloseReceiver, CountHeld}
use Rattle.model.specs.declared.Call.{Call}
use Rattle.model.specs.declared.Call.TheVariants.{Sender, Receive, Control}
use Rattle.model.specs.declared.Answer.{Answer}
use Rattle.model.specs.declared.Answer.TheVariants.{Done, Registered, Taken, Item, Items, Stopped, Empty, Disconnected, Held, Refused}
use Rattle.model.specs.Lists.{if, both}
use Rattle.model.specs.Ready.{groups_in}
use Rattle.model.specs.Runs.{accepted, Tick, gives, ends, same_key}
use Rattle.model.specs.Ledger.{Ledger, note, live_lanes}

-- An accepted call that ends the stretch of lane k: "the lane is paused or closed, the receiver is closed"
unfoldable pub ends_wait : LaneKey → Call → Bool
ends_wait k (Sender c) = false
ends_wait k (Receive r) = false
ends_wait k (Control (Pause i)) = same_key i.key k
ends_wait k (Control (CloseLane i)) = same_key i.key k
ends_wait k (Control CloseReceiver) = true
ends_wait k (Control (Resume i)) = false
ends_wait k (Control ReleaseConsumed) = false
ends_wait k (Control PollAllLanes) = false
ends_wait k (Control CountHeld) = false

-- "until the lane's next item is handed out", or one of those calls
unfoldable pub ends_stretch : LaneKey → Tick → Bool
ends_stretch k (gives c j v) = same_key j k
ends_stretch k (ends c a) = both (accepted a) (ends_wait k c)

-- "The stretch from there lasts until the lane's next item is handed out, the lane is paused or closed, the receiver is closed or the list ends."
unfoldable pub stretch : LaneKey → List Tick → List Tick
stretch k [] = []
stretch k (t ∷ ts) = if (ends_stretch k t) [] (t ∷ stretch k ts)

-- A "plain, fair or non-zero batch receive".
unfoldable pub looks : Call → Bool
looks (Receive TryRecv) = true
looks (Receive TryRecvFair) = true
looks (Receive (TryRecvBatchInto zero room)) = false
looks (Receive (TryRecvBatchInto (suc n) room)) = true
looks (Receive (TryRecvBatchIntoWhile zero bound room)) = false
looks (Receive (TryRecvBatchIntoWhile (suc n) bound room)) = true
looks (Receive (TryRecvFrom i)) = false
looks (Sender c) = false
looks (Control c) = false

unfoldable pub finds_nothing : Answer → Bool
finds_nothing Empty = true
finds_nothing Disconnected = true
finds_nothing Done = false
finds_nothing (Registered k) = false
finds_nothing (Taken w f) = false
finds_nothing (Item v i) = false
finds_nothing (Items n) = false
-- Document 02, N2: "A stop at count 0 is never Empty."
finds_nothing (Stopped n) = false
finds_nothing (Held n) = false
finds_nothing (Refused r) = false

-- Such a receive "answers Empty or Disconnected".
unfoldable pub looks_in_vain : Tick → Bool
looks_in_vain (gives c j v) = false
looks_in_vain (ends c a) = both (looks c) (finds_nothing a)

-- An item that one of the "untargeted receives hand out".
unfoldable pub untargeted : Tick → Bool
untargeted (gives TryRecv j v) = true
untargeted (gives TryRecvFair j v) = true
untargeted (gives (TryRecvBatchInto n room) j v) = true
untargeted (gives (TryRecvBatchIntoWhile n bound room) j v) = true
untargeted (gives (TryRecvFrom i) j v) = false
untargeted (ends c a) = false

-- An item of a lane that is not lane k.
unfoldable pub of_other_lane : LaneKey → Tick → Bool
of_other_lane k (gives r j v) = not (same_key j k)
of_other_lane k (ends c a) = false

-- "items of other lanes" that "untargeted receives hand out"
unfoldable pub untargeted_of_other : LaneKey → Tick → Bool
untargeted_of_other k t = both (untargeted t) (of_other_lane k t)

-- A receive that is not fair.
unfoldable pub other_receive : ReceiveCall → Bool
other_receive TryRecv = true
other_receive TryRecvFair = false
other_receive (TryRecvBatchInto n room) = true
other_receive (TryRecvBatchIntoWhile n bound room) = true
other_receive (TryRecvFrom i) = true

-- "If the stretch's receives, refused ones aside, are all fair": one that is neither fair nor refused.
unfoldable pub not_fair : Tick → Bool
not_fair (gives r j v) = other_receive r
not_fair (ends (Receive r) a) = both (accepted a) (other_receive r)
not_fair (ends (Sender c) a) = false
not_fair (ends (Control c) a) = false

-- The batch was stopped in front of an item.
unfoldable pub says_stopped : Answer → Bool
says_stopped (Stopped n) = true
says_stopped Done = false
says_stopped (Registered k) = false
says_stopped (Taken w f) = false
says_stopped (Item v i) = false
says_stopped (Items n) = false
says_stopped Empty = false
says_stopped Disconnected = false
says_stopped (Held n) = false
says_stopped (Refused r) = false

unfoldable pub stopped : Tick → Bool
stopped (gives c j v) = false
stopped (ends c a) = says_stopped a

-- The most live lanes after any call of a list.
unfoldable pub after_calls : Ledger → List Tick → ℕ
after_calls L [] = 0
after_calls L (gives c j v ∷ ts) = after_calls (note L (gives c j v)) ts
after_calls L (ends c a ∷ ts) = max (live_lanes (note L (ends c a)).lanes) (after_calls (note L (ends c a)) ts)

-- "R is the most lanes that at one time, at its start or after any of its calls, are unclosed and either hold an item or have their sender undropped."
unfoldable pub most_live : Ledger → List Tick → ℕ
most_live L ts = max (live_lanes L.lanes) (after_calls L ts)

-- "G is the number of groups"
unfoldable pub groups_at : Ledger → ℕ
groups_at L = groups_in L.issued
