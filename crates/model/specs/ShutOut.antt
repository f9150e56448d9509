-- Wrong rules, each document 01's but for one call or both sends: those that document 01 says demands 2 and 3 shut out.
-- That a demand does not hold of them is in crates/demands/proofs/ShutOut.antt. More are shut out by what is claimed beside the demands.
-- Assumes nothing.
use Rattle.std.specs.Prelude.{Bool, true, false, not, List, [], ◌∷◌, ◌++◌, ℕ, suc, ◌+◌, ◌%◌, length, ltb, leb, eqb}
use Rattle.model.specs.declared.LaneKey.{LaneKey}
use Rattle.model.specs.declared.LaneId.{LaneId}
use Rattle.model.specs.declared.SenderCall.{SenderCall}
use Rattle.model.specs.declared.SenderCall.TheVariants.{RegisterSender, TrySend, TrySendUnsignaled, DropSender}
use Rattle.model.specs.declared.ReceiveCall.{ReceiveCall}
use Rattle.model.specs.declared.ReceiveCall.TheVariants.{TryRecv, TryRecvFair, TryRecvFrom, TryRecvBatchInto, TryRecvBatchIntoWhile}
use Rattle.model.specs.declared.ControlCall.{ControlCall}
use Rattle.model.specs.declared.ControlCall.TheVariants.{Pause, Resume, CloseLane, ReleaseConsumed, PollAllLanes, CloseReceiver, CountHeld}
use Rattle.model.specs.declared.Call.{Call}
use Rattle.model.specs.declared.Call.TheVariants.{Sender, Receive, Control}
use Rattle.model.specs.declared.Refusal.TheVariants.{StoreNotInOrder, ReceiverClosed, OutputShort, Full}
use Rattle.model.specs.declared.Answer.{Answer}
use Rattle.model.specs.declared.Answer.TheVariants.{Done, Registered, Taken, Item, Items, Stopped, Empty, Disconnected, Held, Refused}
use Rattle.model.specs.Lists.{if, both, non_empty, without, keep, from}
use Rattle.model.specs.State.{State, key_of, has_lane_id, free_places}
use Rattle.model.specs.Changes.{with_queue, with_free, with_issued, with_budget, put, with_ring, new_lane}
use Rattle.model.specs.Ready.{collect_ready}
use Rattle.model.specs.Turn.{run_down, give_front, polled}
use Rattle.model.specs.Outcome.{Outcome, says, unless}
use Rattle.model.specs.Runs.{Lent, Rules, accepted}
use Rattle.model.specs.Sender.{clear_slots, issue_slot, register_sender, try_send, try_send_unsignaled, sender_outcome}
use Rattle.model.specs.Receive.{answer_one, take_up_to, release_all, answer_items, take_while, answer_while, written_to, receive_outcome}
use Rattle.model.specs.Control.{control_outcome}
use Rattle.model.specs.Opening.{opened_state, opening_outcome}
use Rattle.model.specs.Wake.{says_woken}

-- Rules with these outcomes of the sender calls, the receives and the other calls.
unfoldable pub call_by : (State → SenderCall → Outcome) → (State → ReceiveCall → Outcome) → (State → ControlCall → Outcome) → State → Call → Outcome
call_by sending receiving controlling s (Sender c) = sending s c
call_by sending receiving controlling s (Receive r) = receiving s r
call_by sending receiving controlling s (Control c) = controlling s c

unfoldable pub output_by : ReceiveCall → List (LaneKey × ℕ) → List ℕ → List ℕ
output_by TryRecv l out = out
output_by TryRecvFair l out = out
output_by (TryRecvFrom i) l out = out
output_by (TryRecvBatchInto limit room) l out = written_to l out
output_by (TryRecvBatchIntoWhile limit bound room) l out = written_to l out

abbrev pub rules_by : (State → SenderCall → Outcome) → (State → ReceiveCall → Outcome) → (State → ControlCall → Outcome) → Rules
rules_by sending receiving controlling = record {
  State = State;
  Stores = Lent;
  lengths = λ lent. lent;
  opens = λ o lent. (opening_outcome o lent).1;
  step = λ s c. (call_by sending receiving controlling s c).1;
  hands = λ s r. (receiving s r).0;
  output = λ s r out. output_by r (receiving s r).0 out;
}

-- "a receiver that says Empty before looking": a plain receive takes of what is queued, and collects nothing
unfoldable pub receive_before_looking : State → ReceiveCall → Outcome
receive_before_looking s TryRecv = unless ((not s.is_open, ReceiverClosed) ∷ []) s (let t = give_front false s s.queue in answer_one t.0 t.1)
receive_before_looking s TryRecvFair = receive_outcome s TryRecvFair
receive_before_looking s (TryRecvFrom i) = receive_outcome s (TryRecvFrom i)
receive_before_looking s (TryRecvBatchInto limit room) = receive_outcome s (TryRecvBatchInto limit room)
receive_before_looking s (TryRecvBatchIntoWhile limit bound room) = receive_outcome s (TryRecvBatchIntoWhile limit bound room)

abbrev pub empty_before_looking : Rules
empty_before_looking = rules_by sender_outcome receive_before_looking control_outcome

-- "a fair receive that serves only the front lane": it does not go to the back
unfoldable pub receive_of_front : State → ReceiveCall → Outcome
receive_of_front s TryRecvFair =
    unless ((not s.is_open, ReceiverClosed) ∷ []) s
    (let t = run_down (with_budget 64 (collect_ready s)) in let g = give_front false t t.queue in answer_one g.0 g.1)
receive_of_front s TryRecv = receive_outcome s TryRecv
receive_of_front s (TryRecvFrom i) = receive_outcome s (TryRecvFrom i)
receive_of_front s (TryRecvBatchInto limit room) = receive_outcome s (TryRecvBatchInto limit room)
receive_of_front s (TryRecvBatchIntoWhile limit bound room) = receive_outcome s (TryRecvBatchIntoWhile limit bound room)

abbrev pub fair_serves_front_only : Rules
fair_serves_front_only = rules_by sender_outcome receive_of_front control_outcome

-- "a send refusing every item as full"
unfoldable pub send_refused : State → SenderCall → Outcome
send_refused s (TrySend k v) = says (Refused Full) s
send_refused s (RegisterSender most) = sender_outcome s (RegisterSender most)
send_refused s (TrySendUnsignaled k v) = sender_outcome s (TrySendUnsignaled k v)
send_refused s (DropSender k) = sender_outcome s (DropSender k)

abbrev pub send_full_always : Rules
send_full_always = rules_by send_refused receive_outcome control_outcome

-- "or storing nothing": it answers as a send does, and leaves the state as it was
unfoldable pub send_unstored : State → SenderCall → Outcome
send_unstored s (TrySend k v) = says (try_send s k v).1.0 s
send_unstored s (RegisterSender most) = sender_outcome s (RegisterSender most)
send_unstored s (TrySendUnsignaled k v) = sender_outcome s (TrySendUnsignaled k v)
send_unstored s (DropSender k) = sender_outcome s (DropSender k)

abbrev pub send_stores_nothing : Rules
send_stores_nothing = rules_by send_unstored receive_outcome control_outcome

-- A batch with another outcome where it is not refused.
unfoldable pub batch_by : (ℕ → State → Outcome) → State → ReceiveCall → Outcome
batch_by batch s (TryRecvBatchInto limit room) = unless ((not s.is_open, ReceiverClosed) ∷ (ltb room limit, OutputShort) ∷ []) s (batch limit s)
batch_by batch s (TryRecvBatchIntoWhile limit bound room) = receive_outcome s (TryRecvBatchIntoWhile limit bound room)
batch_by batch s TryRecv = receive_outcome s TryRecv
batch_by batch s TryRecvFair = receive_outcome s TryRecvFair
batch_by batch s (TryRecvFrom i) = receive_outcome s (TryRecvFrom i)

-- "a batch that moves its first chunk and only reports the others": one item goes out of its ring, and all are handed out
unfoldable pub first_moved : ℕ → State → Outcome
first_moved limit s = answer_items limit (take_up_to limit s).0 (release_all (take_up_to 1 s).1)

abbrev pub batch_moves_first_only : Rules
batch_moves_first_only = rules_by sender_outcome (batch_by first_moved) control_outcome

-- the same, and only the one is handed out
unfoldable pub others_reported : ℕ → State → Outcome
others_reported limit s = let t = take_up_to limit s in let u = take_up_to 1 s in (u.0, (Items (length t.0), release_all u.1))

abbrev pub batch_reports_others : Rules
batch_reports_others = rules_by sender_outcome (batch_by others_reported) control_outcome

-- "or a count it did not move": one more than it moved
unfoldable pub one_more_counted : ℕ → State → Outcome
one_more_counted limit s = let t = take_up_to limit s in (t.0, (Items (suc (length t.0)), release_all t.1))

abbrev pub batch_counts_one_more : Rules
batch_counts_one_more = rules_by sender_outcome (batch_by one_more_counted) control_outcome

-- Document 02, N2: a batch with a bound with another outcome where it is not refused.
unfoldable pub while_by : (ℕ → ℕ → State → Outcome) → State → ReceiveCall → Outcome
while_by batch s (TryRecvBatchIntoWhile limit bound room) = unless ((not s.is_open, ReceiverClosed) ∷ (ltb room limit, OutputShort) ∷ []) s (batch limit bound s)
while_by batch s (TryRecvBatchInto limit room) = receive_outcome s (TryRecvBatchInto limit room)
while_by batch s TryRecv = receive_outcome s TryRecv
while_by batch s TryRecvFair = receive_outcome s TryRecvFair
while_by batch s (TryRecvFrom i) = receive_outcome s (TryRecvFrom i)

-- one that answers a stop at count 0 whatever there is, and does nothing
unfoldable pub stopped_at_once : ℕ → ℕ → State → Outcome
stopped_at_once limit bound s = ([], (Stopped 0, s))

abbrev pub batch_always_stops : Rules
batch_always_stops = rules_by sender_outcome (while_by stopped_at_once) control_outcome

-- one that says that it stopped where all items were admitted
unfoldable pub stopped_at_end : ℕ → ℕ → State → Outcome
stopped_at_end limit bound s = let t = take_while bound limit s in (t.1.0, (Stopped (length t.1.0), release_all t.1.1))

abbrev pub batch_stops_at_end : Rules
batch_stops_at_end = rules_by sender_outcome (while_by stopped_at_end) control_outcome

-- one that stops at once where any unpaused lane's oldest item is above the bound, in front or not
unfoldable pub item_above : ℕ → List ℕ → Bool
item_above bound [] = false
item_above bound (v ∷ vs) = ltb bound v

unfoldable pub stopped_too_soon : ℕ → ℕ → State → Outcome
stopped_too_soon limit bound s =
    let t = take_while bound limit s in
    let above = keep (λ x. both (s.slot_of x).registered (both (not (s.slot_of x).paused) (item_above bound (s.slot_of x).ring))) (from 0 s.issued) in
    if (non_empty above) ([], (Stopped 0, s)) (answer_while limit t.0 t.1.0 (release_all t.1.1))

abbrev pub batch_stops_too_soon : Rules
batch_stops_too_soon = rules_by sender_outcome (while_by stopped_too_soon) control_outcome

-- and one that hands out what is above the bound
unfoldable pub never_stopped : ℕ → ℕ → State → Outcome
never_stopped limit bound s = let t = take_up_to limit s in answer_items limit t.0 (release_all t.1)

abbrev pub batch_never_stops : Rules
batch_never_stops = rules_by sender_outcome (while_by never_stopped) control_outcome

-- "one item handed out for ever": a plain receive leaves the item where it is
unfoldable pub receive_leaves_item : State → ReceiveCall → Outcome
receive_leaves_item s TryRecv =
    unless ((not s.is_open, ReceiverClosed) ∷ []) s (let t = polled s in answer_one (give_front false t t.queue).0 t)
receive_leaves_item s TryRecvFair = receive_outcome s TryRecvFair
receive_leaves_item s (TryRecvFrom i) = receive_outcome s (TryRecvFrom i)
receive_leaves_item s (TryRecvBatchInto limit room) = receive_outcome s (TryRecvBatchInto limit room)
receive_leaves_item s (TryRecvBatchIntoWhile limit bound room) = receive_outcome s (TryRecvBatchIntoWhile limit bound room)

abbrev pub item_for_ever : Rules
item_for_ever = rules_by sender_outcome receive_leaves_item control_outcome

-- "a held count of 0"
unfoldable pub counts_none : State → ControlCall → Outcome
counts_none s CountHeld = says (Held 0) s
counts_none s (Pause i) = control_outcome s (Pause i)
counts_none s (Resume i) = control_outcome s (Resume i)
counts_none s (CloseLane i) = control_outcome s (CloseLane i)
counts_none s ReleaseConsumed = control_outcome s ReleaseConsumed
counts_none s PollAllLanes = control_outcome s PollAllLanes
counts_none s CloseReceiver = control_outcome s CloseReceiver

abbrev pub held_zero : Rules
held_zero = rules_by sender_outcome receive_outcome counts_none

-- ---- shut out by what is claimed beside the demands

-- `KeysNeverAgain` shuts out a slot that is issued again under the same key.
unfoldable pub issued_again : List ℕ → State → Outcome
issued_again [] s = issue_slot [] s
issued_again (x ∷ f) s = says (Registered (key_of s x)) (with_free (without x s.free) (put x (new_lane (s.slot_of x).generation (s.slot_of x)) s))

unfoldable pub register_same_key : State → SenderCall → Outcome
register_same_key s (RegisterSender most) = let o = register_sender s most in if (accepted o.1.0) (issued_again (clear_slots s) s) o
register_same_key s (TrySend k v) = sender_outcome s (TrySend k v)
register_same_key s (TrySendUnsignaled k v) = sender_outcome s (TrySendUnsignaled k v)
register_same_key s (DropSender k) = sender_outcome s (DropSender k)

abbrev pub same_key_again : Rules
same_key_again = rules_by register_same_key receive_outcome control_outcome

-- `NoLostWake` shuts out a send that never says woken 1: it leaves what a send leaves.
unfoldable pub send_unwoken : State → SenderCall → Outcome
send_unwoken s (TrySend k v) = let o = try_send s k v in says (if (accepted o.1.0) (Taken false (free_places o.1.1 k.slot)) o.1.0) o.1.1
send_unwoken s (RegisterSender most) = sender_outcome s (RegisterSender most)
send_unwoken s (TrySendUnsignaled k v) = sender_outcome s (TrySendUnsignaled k v)
send_unwoken s (DropSender k) = sender_outcome s (DropSender k)

abbrev pub send_never_wakes : Rules
send_never_wakes = rules_by send_unwoken receive_outcome control_outcome

-- `EqualTurns` shuts out a targeted receive that sends the lane in front to the back, by one such call (proofs/Examples/Uneven.antt).
unfoldable pub front_to_back : List ℕ → List ℕ
front_to_back [] = []
front_to_back (x ∷ q) = q ++ (x ∷ [])

unfoldable pub receive_turns_round : State → ReceiveCall → Outcome
receive_turns_round s (TryRecvFrom i) =
    let o = receive_outcome s (TryRecvFrom i) in
    let u = o.1.1 in
    (o.0, (o.1.0, if (accepted o.1.0) (with_queue (front_to_back u.queue) u) u))
receive_turns_round s TryRecv = receive_outcome s TryRecv
receive_turns_round s TryRecvFair = receive_outcome s TryRecvFair
receive_turns_round s (TryRecvBatchInto limit room) = receive_outcome s (TryRecvBatchInto limit room)
receive_turns_round s (TryRecvBatchIntoWhile limit bound room) = receive_outcome s (TryRecvBatchIntoWhile limit bound room)

abbrev pub targeted_turns_round : Rules
targeted_turns_round = rules_by sender_outcome receive_turns_round control_outcome

-- `FreePlaces` shuts out sends that say another number (proofs/Examples/Miscounted.antt). What they leave is right; the number goes by whether the send marks, the
-- state after it, and the slot.
abbrev pub Said : Type 0
Said = (marks : Bool) (after : State) (slot : ℕ) → ℕ

unfoldable pub said_instead : Said → Bool → ℕ → Outcome → Outcome
said_instead f marks x o = let a = o.1.0 in (o.0, (if (accepted a) (Taken (says_woken a) (f marks o.1.1 x)) a, o.1.1))

unfoldable pub send_saying : Said → State → SenderCall → Outcome
send_saying f s (TrySend k v) = said_instead f true k.slot (try_send s k v)
send_saying f s (TrySendUnsignaled k v) = said_instead f false k.slot (try_send_unsignaled s k v)
send_saying f s (RegisterSender most) = sender_outcome s (RegisterSender most)
send_saying f s (DropSender k) = sender_outcome s (DropSender k)

abbrev pub sends_say : Said → Rules
sends_say f = rules_by (send_saying f) receive_outcome control_outcome

-- Refused as full instead of accepted, where a test says so.
unfoldable pub full_if : Bool → State → Outcome → Outcome
full_if b s o = if (both b (accepted o.1.0)) (says (Refused Full) s) o

-- Sends of one kind, those that mark or those that do not, which leave the last place free.
unfoldable pub send_keeps_place : Bool → State → SenderCall → Outcome
send_keeps_place marks s (TrySend k v) = full_if (both marks (leb (free_places s k.slot) 1)) s (try_send s k v)
send_keeps_place marks s (TrySendUnsignaled k v) = full_if (both (not marks) (leb (free_places s k.slot) 1)) s (try_send_unsignaled s k v)
send_keeps_place marks s (RegisterSender most) = sender_outcome s (RegisterSender most)
send_keeps_place marks s (DropSender k) = sender_outcome s (DropSender k)

abbrev pub keeps_last_place : Bool → Rules
keeps_last_place marks = rules_by (send_keeps_place marks) receive_outcome control_outcome

-- A send that is refused, and gives all credit back.
unfoldable pub send_releases : State → SenderCall → Outcome
send_releases s c = let o = sender_outcome s c in if (accepted o.1.0) o (says o.1.0 (release_all s))

abbrev pub refusal_releases : Rules
refusal_releases = rules_by send_releases receive_outcome control_outcome

-- `NotFullBefore` shuts out a send that is refused as full while its lane is paused.
unfoldable pub send_full_paused : State → SenderCall → Outcome
send_full_paused s (TrySend k v) = full_if (s.slot_of k.slot).paused s (try_send s k v)
send_full_paused s (TrySendUnsignaled k v) = full_if (s.slot_of k.slot).paused s (try_send_unsignaled s k v)
send_full_paused s (RegisterSender most) = sender_outcome s (RegisterSender most)
send_full_paused s (DropSender k) = sender_outcome s (DropSender k)

abbrev pub paused_is_full : Rules
paused_is_full = rules_by send_full_paused receive_outcome control_outcome

-- And a slot that is issued again without the credit that its last lane had not given back.
unfoldable pub issued_unreleased : List ℕ → State → Outcome
issued_unreleased [] s = issue_slot [] s
issued_unreleased (x ∷ f) s =
    let l = s.slot_of x in
    says (Registered record { slot = x; generation = l.generation + 1 }) (with_free (without x s.free) (put x (with_ring [] l.unreleased 0 (new_lane (l.generation + 1) l)) s))

unfoldable pub register_unreleased : State → SenderCall → Outcome
register_unreleased s (RegisterSender most) = let o = register_sender s most in if (accepted o.1.0) (issued_unreleased (clear_slots s) s) o
register_unreleased s (TrySend k v) = sender_outcome s (TrySend k v)
register_unreleased s (TrySendUnsignaled k v) = sender_outcome s (TrySendUnsignaled k v)
register_unreleased s (DropSender k) = sender_outcome s (DropSender k)

abbrev pub new_lane_unreleased : Rules
new_lane_unreleased = rules_by register_unreleased receive_outcome control_outcome

-- The claims of specs/LaneIds.antt shut out the following (proofs/Examples/Mistaken.antt).
-- Calls that take an id for another, by the state.
abbrev pub TakenFor : Type 0
TakenFor = State → LaneId → LaneId

unfoldable pub as_it_is : TakenFor
as_it_is s i = i

-- Ids known by channel and key alone; by these and the number's lower 32 bits; by opening number and key alone; and none known, as slot S is never issued.
unfoldable pub number_ignored : TakenFor
number_ignored s i = record { channel = record { id = i.channel.id; opening = s.channel.opening }; key = i.key }

unfoldable pub upper_half_ignored : TakenFor
upper_half_ignored s i = if (eqb (i.channel.opening % 4294967296) (s.channel.opening % 4294967296)) (number_ignored s i) i

unfoldable pub channel_ignored : TakenFor
channel_ignored s i = record { channel = record { id = s.channel.id; opening = i.channel.opening }; key = i.key }

unfoldable pub for_no_lane : TakenFor
for_no_lane s i = record { channel = i.channel; key = record { slot = s.slots; generation = i.key.generation } }

-- What a call by id i does otherwise: `run j` is the call by id j.
abbrev pub Otherwise : Type 0
Otherwise = State → LaneId → (LaneId → Outcome) → Outcome

unfoldable pub taking : TakenFor → Otherwise
taking f s i run = run (f s i)

-- 6 to a lane's own id, though the receiver is open; accepted, though it is closed.
unfoldable pub own_refused : Otherwise
own_refused s i run = if (both s.is_open (has_lane_id s i)) (says (Refused ReceiverClosed) s) (run i)

unfoldable pub closed_accepted : Otherwise
closed_accepted s i run = if s.is_open (run i) (says Done s)

unfoldable pub receive_otherwise : Otherwise → State → ReceiveCall → Outcome
receive_otherwise f s (TryRecvFrom i) = f s i (λ j. receive_outcome s (TryRecvFrom j))
receive_otherwise f s TryRecv = receive_outcome s TryRecv
receive_otherwise f s TryRecvFair = receive_outcome s TryRecvFair
receive_otherwise f s (TryRecvBatchInto limit room) = receive_outcome s (TryRecvBatchInto limit room)
receive_otherwise f s (TryRecvBatchIntoWhile limit bound room) = receive_outcome s (TryRecvBatchIntoWhile limit bound room)

unfoldable pub control_otherwise : Otherwise → Otherwise → Otherwise → State → ControlCall → Outcome
control_otherwise f g h s (Pause i) = f s i (λ j. control_outcome s (Pause j))
control_otherwise f g h s (Resume i) = g s i (λ j. control_outcome s (Resume j))
control_otherwise f g h s (CloseLane i) = h s i (λ j. control_outcome s (CloseLane j))
control_otherwise f g h s ReleaseConsumed = control_outcome s ReleaseConsumed
control_otherwise f g h s PollAllLanes = control_outcome s PollAllLanes
control_otherwise f g h s CloseReceiver = control_outcome s CloseReceiver
control_otherwise f g h s CountHeld = control_outcome s CountHeld

abbrev pub do_otherwise : (targeted paused resumed closed : Otherwise) → Rules
do_otherwise targeted paused resumed closed = rules_by sender_outcome (receive_otherwise targeted) (control_otherwise paused resumed closed)

abbrev pub takes_ids : (targeted paused resumed closed : TakenFor) → Rules
takes_ids targeted paused resumed closed = do_otherwise (taking targeted) (taking paused) (taking resumed) (taking closed)

-- Items with another id.
unfoldable pub item_named : (LaneId → LaneId) → Answer → Answer
item_named f (Item v i) = Item v (f i)
item_named f Done = Done
item_named f (Registered k) = Registered k
item_named f (Taken w n) = Taken w n
item_named f (Items n) = Items n
item_named f (Stopped n) = Stopped n
item_named f Empty = Empty
item_named f Disconnected = Disconnected
item_named f (Held n) = Held n
item_named f (Refused r) = Refused r

unfoldable pub receive_naming : (plain fair targeted : LaneId → LaneId) → State → ReceiveCall → Outcome
receive_naming f g h s TryRecv = let o = receive_outcome s TryRecv in (o.0, (item_named f o.1.0, o.1.1))
receive_naming f g h s TryRecvFair = let o = receive_outcome s TryRecvFair in (o.0, (item_named g o.1.0, o.1.1))
receive_naming f g h s (TryRecvFrom i) = let o = receive_outcome s (TryRecvFrom i) in (o.0, (item_named h o.1.0, o.1.1))
receive_naming f g h s (TryRecvBatchInto limit room) = receive_outcome s (TryRecvBatchInto limit room)
receive_naming f g h s (TryRecvBatchIntoWhile limit bound room) = receive_outcome s (TryRecvBatchIntoWhile limit bound room)

abbrev pub names_items : (plain fair targeted : LaneId → LaneId) → Rules
names_items plain fair targeted = rules_by sender_outcome (receive_naming plain fair targeted) control_outcome

-- Calls of a kind that lose the opening number: where they are accepted, it is 1 afterwards.
unfoldable pub number_lost : Outcome → Outcome
number_lost o = let u = o.1.1 in (
  o.0,
  (
    o.1.0,
    if (accepted o.1.0) record {
      slot_of = u.slot_of;
      queue = u.queue;
      free = u.free;
      issued = u.issued;
      budget = u.budget;
      cursor = u.cursor;
      is_open = u.is_open;
      capacity = u.capacity;
      slots = u.slots;
      channel = record { id = u.channel.id; opening = 1 };
      first_generation = u.first_generation;
    } u,
  ),
)

abbrev pub sender_calls_lose_number : Rules
sender_calls_lose_number = rules_by (λ s c. number_lost (sender_outcome s c)) receive_outcome control_outcome

abbrev pub receives_lose_number : Rules
receives_lose_number = rules_by sender_outcome (λ s r. number_lost (receive_outcome s r)) control_outcome

abbrev pub controls_lose_number : Rules
controls_lose_number = rules_by sender_outcome receive_outcome (λ s c. number_lost (control_outcome s c))

-- `NumberOnlyTellsIds` shuts out rules in which the opening number does something else (proofs/Examples/Renumbered.antt).
-- Where it is not 0, a send is refused as full, a fair receive serves only the front lane, the held count is 0, as above.
unfoldable pub if_numbered : {C : Type 0} → (State → C → Outcome) → (State → C → Outcome) → State → C → Outcome
if_numbered wrong right s c = if (eqb s.channel.opening 0) (right s c) (wrong s c)

abbrev pub numbered_send_full : Rules
numbered_send_full = rules_by (if_numbered send_refused sender_outcome) receive_outcome control_outcome

abbrev pub numbered_fair_front : Rules
numbered_fair_front = rules_by sender_outcome (if_numbered receive_of_front receive_outcome) control_outcome

abbrev pub numbered_held_zero : Rules
numbered_held_zero = rules_by sender_outcome receive_outcome (if_numbered counts_none control_outcome)

-- The first generation has the number added to it.
unfoldable pub issued_numbered : List ℕ → State → Outcome
issued_numbered [] s =
    let g = s.first_generation + s.channel.opening in
    says (Registered record { slot = s.issued; generation = g }) (with_issued (suc s.issued) (put s.issued (new_lane g (s.slot_of s.issued)) s))
issued_numbered (x ∷ l) s = issue_slot (x ∷ l) s

unfoldable pub register_numbered : State → SenderCall → Outcome
register_numbered s (RegisterSender most) = let o = register_sender s most in if (accepted o.1.0) (issued_numbered (clear_slots s) s) o
register_numbered s (TrySend k v) = sender_outcome s (TrySend k v)
register_numbered s (TrySendUnsignaled k v) = sender_outcome s (TrySendUnsignaled k v)
register_numbered s (DropSender k) = sender_outcome s (DropSender k)

abbrev pub generations_numbered : Rules
generations_numbered = rules_by register_numbered receive_outcome control_outcome

-- An id of a later opening, one with a higher number, is taken for one of this.
unfoldable pub later_for_this : TakenFor
later_for_this s i = if (leb s.channel.opening i.channel.opening) (number_ignored s i) i

-- A batch with a number other than 0 writes nothing.
abbrev pub numbered_writes_nothing : Rules
numbered_writes_nothing = record {
  State = State;
  Stores = Lent;
  lengths = λ lent. lent;
  opens = λ o lent. (opening_outcome o lent).1;
  step = λ s c. (call_by sender_outcome receive_outcome control_outcome s c).1;
  hands = λ s r. (receive_outcome s r).0;
  output = λ s r out. if (eqb s.channel.opening 0) (output_by r (receive_outcome s r).0 out) out;
}

-- An opening with a number other than 0 is refused.
abbrev pub opens_unnumbered : Rules
opens_unnumbered = record {
  State = State;
  Stores = Lent;
  lengths = λ lent. lent;
  opens = λ o lent. if (eqb o.number 0) (opening_outcome o lent).1 (Refused StoreNotInOrder, opened_state o);
  step = λ s c. (call_by sender_outcome receive_outcome control_outcome s c).1;
  hands = λ s r. (receive_outcome s r).0;
  output = λ s r out. output_by r (receive_outcome s r).0 out;
}
