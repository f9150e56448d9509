-- When a receiver may sleep, and that a send then wakes it: by the calls and their answers alone.
-- Assumes nothing.
use Rattle.std.specs.Prelude.{◌≡◌, Bool, true, false, not, List, [], ◌∷◌, ◌++◌, ℕ, ltb}
use Rattle.model.specs.declared.LaneKey.{LaneKey}
use Rattle.model.specs.declared.Opening.{Opening}
use Rattle.model.specs.declared.SenderCall.TheVariants.{RegisterSender, TrySend, TrySendUnsignaled, DropSender}
use Rattle.model.specs.declared.ReceiveCall.TheVariants.{TryRecv, TryRecvFair, TryRecvFrom, TryRecvBatchInto, TryRecvBatchIntoWhile}
use Rattle.model.specs.declared.ControlCall.TheVariants.{Pause, Resume, CloseLane, ReleaseConsumed, PollAllLanes, CloseReceiver, CountHeld}
use Rattle.model.specs.declared.Call.{Call}
use Rattle.model.specs.declared.Call.TheVariants.{Sender, Receive, Control}
use Rattle.model.specs.declared.Answer.{Answer}
use Rattle.model.specs.declared.Answer.TheVariants.{Done, Registered, Taken, Item, Items, Stopped, Empty, Disconnected, Held, Refused}
use Rattle.model.specs.Lists.{if, both, either}
use Rattle.model.specs.Runs.{Rules, RunsOf, all_runs, accepted, Tick, gives, ends, trace, same_key, count_ticks}
use Rattle.model.specs.Ledger.{Lane, at_opening, ledger_after, waits}
use Rattle.model.specs.Stretch.{looks_in_vain}

-- "fewer items than its limit"
unfoldable pub items_below : ℕ → Answer → Bool
items_below limit (Items n) = ltb n limit
-- Document 02, N2: a batch that stopped is not such a one, as an item is next.
items_below limit (Stopped n) = false
items_below limit Done = false
items_below limit (Registered k) = false
items_below limit (Taken w f) = false
items_below limit (Item v i) = false
items_below limit Empty = false
items_below limit Disconnected = false
items_below limit (Held n) = false
items_below limit (Refused r) = false

-- "a batch that answered fewer items than its limit"
unfoldable pub below_limit : Call → Answer → Bool
below_limit (Receive (TryRecvBatchInto limit room)) a = items_below limit a
below_limit (Receive (TryRecvBatchIntoWhile limit bound room)) a = items_below limit a
below_limit (Receive TryRecv) a = false
below_limit (Receive TryRecvFair) a = false
below_limit (Receive (TryRecvFrom i)) a = false
below_limit (Sender c) a = false
below_limit (Control c) a = false

-- A receiver may sleep "after a plain, fair or non-zero batch receive that answered Empty or Disconnected, and after a batch that answered fewer items than its limit".
unfoldable pub may_sleep : Call → Answer → Bool
may_sleep c a = either (looks_in_vain (ends c a)) (below_limit c a)

-- "while only sender calls and held are made", refused ones too: any other call ends the sleep.
unfoldable pub while_asleep : Call → Bool
while_asleep (Sender c) = true
while_asleep (Control CountHeld) = true
while_asleep (Control (Pause i)) = false
while_asleep (Control (Resume i)) = false
while_asleep (Control (CloseLane i)) = false
while_asleep (Control ReleaseConsumed) = false
while_asleep (Control PollAllLanes) = false
while_asleep (Control CloseReceiver) = false
while_asleep (Receive r) = false

unfoldable pub ends_sleep : Tick → Bool
ends_sleep (gives r j v) = true
ends_sleep (ends c a) = not (while_asleep c)

-- An "accepted ordinary send" to lane k.
unfoldable pub sends_to : LaneKey → Tick → Bool
sends_to k (ends (Sender (TrySend j v)) a) = both (accepted a) (same_key j k)
sends_to k (ends (Sender (TrySendUnsignaled j v)) a) = false
sends_to k (ends (Sender (RegisterSender m)) a) = false
sends_to k (ends (Sender (DropSender j)) a) = false
sends_to k (ends (Receive r) a) = false
sends_to k (ends (Control c) a) = false
sends_to k (gives r j v) = false

-- "answers woken 1"
unfoldable pub says_woken : Answer → Bool
says_woken (Taken w f) = w
says_woken Done = false
says_woken (Registered k) = false
says_woken (Item v i) = false
says_woken (Items n) = false
says_woken (Stopped n) = false
says_woken Empty = false
says_woken Disconnected = false
says_woken (Held n) = false
says_woken (Refused r) = false

unfoldable pub wakes : Tick → Bool
wakes (ends c a) = says_woken a
wakes (gives r j v) = false

-- "a lane is paused from an accepted pause to an accepted resume"; one that is not registered yet is not.
unfoldable pub paused_in : LaneKey → List Lane → Bool
paused_in k [] = false
paused_in k (l ∷ ls) = if (same_key l.key k) l.paused (paused_in k ls)

-- "from such an answer on, while only sender calls and held are made, the first accepted ordinary send to an unpaused lane answers woken 1"
-- It is said of each lane k that is unpaused where the receiver falls asleep, one registered later too, and of the first such send to k, which is t:
-- so it holds of the first to any.
-- The claim is about all of `runs`.
unfoldable pub NoLostWakeIn : (R : Rules) → RunsOf R → Type 0
NoLostWakeIn R runs =
    (o : Opening) (lent : R.Stores) → (R.opens o lent).0 ≡ Done
    → (calls : List Call) → runs o lent calls
    → (before asleep rest : List Tick) (c : Call) (a : Answer) (t : Tick)
    → trace R (R.opens o lent).1 calls ≡ before ++ (ends c a ∷ (asleep ++ (t ∷ rest)))
    → may_sleep c a ≡ true
    → count_ticks ends_sleep asleep ≡ 0
    → (k : LaneKey) → paused_in k (ledger_after at_opening before).lanes ≡ false
    → count_ticks (sends_to k) asleep ≡ 0 → sends_to k t ≡ true
    → wakes t ≡ true

unfoldable pub NoLostWake : Rules → Type 0
NoLostWake R = NoLostWakeIn R (all_runs R)

-- Where a receiver may sleep nothing waits for it: no unpaused lane holds an ordinarily sent item.
-- The claim is about all of `runs`.
unfoldable pub NothingWaitsIn : (R : Rules) → RunsOf R → Type 0
NothingWaitsIn R runs =
    (o : Opening) (lent : R.Stores) → (R.opens o lent).0 ≡ Done
    → (calls : List Call) → runs o lent calls
    → (before rest : List Tick) (c : Call) (a : Answer)
    → trace R (R.opens o lent).1 calls ≡ before ++ (ends c a ∷ rest)
    → may_sleep c a ≡ true
    → (k : LaneKey) → waits k (ledger_after at_opening before) ≡ false

unfoldable pub NothingWaits : Rules → Type 0
NothingWaits R = NothingWaitsIn R (all_runs R)
