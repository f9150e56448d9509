-- What holds at a point of a run, "By the calls and their answers" alone: the rules' state is not looked at.
-- Assumes nothing.
use Rattle.std.specs.Prelude.{Bool, true, false, not, ℕ, ◌+◌, max}
use mathlib.Core.List.{List, [], ◌∷◌, ◌++◌, map, tail}
use Rattle.model.specs.declared.LaneKey.{LaneKey}
use Rattle.model.specs.declared.SenderCall.TheVariants.{RegisterSender, TrySend, TrySendUnsignaled, DropSender}
use Rattle.model.specs.declared.ControlCall.TheVariants.{Pause, Resume, CloseLane, ReleaseConsumed, PollAllLanes, CloseReceiver, CountHeld}
use Rattle.model.specs.declared.Call.{Call}
use Rattle.model.specs.declared.Call.TheVariants.{Sender, Receive, Control}
use Rattle.model.specs.declared.Answer.{Answer}
use Rattle.model.specs.declared.Answer.TheVariants.{Done, Registered, Taken, Item, Items, Stopped, Empty, Disconnected, Held, Refused}
use Rattle.model.specs.Lists.{if, both, either, non_empty}
use Rattle.model.specs.Runs.{accepted, Tick, gives, ends, same_key}

-- An item that a lane holds: its value, and whether it was "ordinarily sent".
pub record HeldItem : Type 0 where
  pub value : ℕ
  pub ordinary : Bool

pub record Lane : Type 0 where
  pub key : LaneKey
  -- "it holds its accepted sends of both kinds not yet handed out, oldest next"
  pub holds : List HeldItem
  -- "a lane is paused from an accepted pause to an accepted resume"
  pub paused : Bool
  -- "closed by an accepted `close_lane`"
  pub closed : Bool
  -- its sender is dropped
  pub dropped : Bool

pub record Ledger : Type 0 where
  -- all lanes ever registered, the last first
  pub lanes : List Lane
  pub receiver_closed : Bool
  -- slots 0 to issued - 1 have been issued
  pub issued : ℕ

-- The ledger at an accepted opening. "No sender yet"
unfoldable pub at_opening : Ledger
at_opening = record { lanes = []; receiver_closed = false; issued = 0 }

-- The lane with key k changes by f; the others stay.
unfoldable pub change_lane : LaneKey → (Lane → Lane) → Ledger → Ledger
change_lane k f L = record {
  lanes = map (λ l. if (same_key l.key k) (f l) l) L.lanes;
  receiver_closed = L.receiver_closed;
  issued = L.issued;
}

unfoldable pub add_item : HeldItem → Lane → Lane
add_item v l = record { key = l.key; holds = l.holds ++ (v ∷ []); paused = l.paused; closed = l.closed; dropped = l.dropped }

unfoldable pub remove_oldest : Lane → Lane
remove_oldest l = record { key = l.key; holds = tail l.holds; paused = l.paused; closed = l.closed; dropped = l.dropped }

unfoldable pub set_paused : Bool → Lane → Lane
set_paused b l = record { key = l.key; holds = l.holds; paused = b; closed = l.closed; dropped = l.dropped }

unfoldable pub set_closed : Lane → Lane
set_closed l = record { key = l.key; holds = l.holds; paused = l.paused; closed = true; dropped = l.dropped }

unfoldable pub set_dropped : Lane → Lane
set_dropped l = record { key = l.key; holds = l.holds; paused = l.paused; closed = l.closed; dropped = true }

-- A registration that was answered with a lane's key.
unfoldable pub add_registered : Answer → Ledger → Ledger
add_registered (Registered k) L = record {
  lanes = record { key = k; holds = []; paused = false; closed = false; dropped = false } ∷ L.lanes;
  receiver_closed = L.receiver_closed;
  issued = max L.issued (k.slot + 1);
}
add_registered Done L = L
add_registered (Taken w f) L = L
add_registered (Item v i) L = L
add_registered (Items n) L = L
add_registered (Stopped n) L = L
add_registered Empty L = L
add_registered Disconnected L = L
add_registered (Held n) L = L
add_registered (Refused r) L = L

-- An accepted call.
unfoldable pub apply_call : Call → Ledger → Ledger
apply_call (Receive r) L = L
apply_call (Sender (RegisterSender m)) L = L
apply_call (Sender (TrySend k v)) L = change_lane k (add_item record { value = v; ordinary = true }) L
apply_call (Sender (TrySendUnsignaled k v)) L = change_lane k (add_item record { value = v; ordinary = false }) L
apply_call (Sender (DropSender k)) L = change_lane k set_dropped L
apply_call (Control (Pause i)) L = change_lane i.key (set_paused true) L
apply_call (Control (Resume i)) L = change_lane i.key (set_paused false) L
apply_call (Control (CloseLane i)) L = change_lane i.key set_closed L
apply_call (Control CloseReceiver) L = record { lanes = L.lanes; receiver_closed = true; issued = L.issued }
apply_call (Control ReleaseConsumed) L = L
apply_call (Control PollAllLanes) L = L
apply_call (Control CountHeld) L = L

-- One thing that happens: an item leaves its lane, or a call ends, and changes nothing if it is refused.
unfoldable pub note : Ledger → Tick → Ledger
note L (gives c k v) = change_lane k remove_oldest L
note L (ends c a) = if (accepted a) (apply_call c (add_registered a L)) L

-- The ledger after all that happens in a list.
unfoldable pub ledger_after : Ledger → List Tick → Ledger
ledger_after L [] = L
ledger_after L (t ∷ ts) = ledger_after (note L t) ts

unfoldable pub any_ordinary : List HeldItem → Bool
any_ordinary [] = false
any_ordinary (v ∷ vs) = if v.ordinary true (any_ordinary vs)

unfoldable pub waits_in : LaneKey → List Lane → Bool
waits_in k [] = false
waits_in k (l ∷ ls) =
    if (same_key l.key k) (both (not l.paused) (both (not l.closed) (any_ordinary l.holds))) (waits_in k ls)

-- "an unpaused, unclosed lane holds an ordinarily sent item and the receiver is open"
unfoldable pub waits : LaneKey → Ledger → Bool
waits k L = both (not L.receiver_closed) (waits_in k L.lanes)

-- "unclosed and either hold an item or have their sender undropped"
unfoldable pub is_live : Lane → Bool
is_live l = both (not l.closed) (either (non_empty l.holds) (not l.dropped))

unfoldable pub live_lanes : List Lane → ℕ
live_lanes [] = 0
live_lanes (l ∷ ls) = if (is_live l) 1 0 + live_lanes ls
