-- What happens inside the receives, as a list of events. Each definition here goes the way of the rule that it is named after
-- (`run_down_from` and `run_down_from_events`), through the same states, and writes down what that rule does there.
-- Assumes nothing.
use Rattle.std.specs.Prelude.{Bool, true, false, List, [], ◌∷◌, ◌++◌, ℕ, zero, suc, ◌+◌, length, leb, ltb}
use Rattle.model.specs.declared.LaneKey.{LaneKey}
use Rattle.model.specs.declared.Opening.{Opening}
use Rattle.model.specs.declared.ReceiveCall.{ReceiveCall}
use Rattle.model.specs.declared.ReceiveCall.TheVariants.{TryRecv, TryRecvFair, TryRecvFrom, TryRecvBatchInto, TryRecvBatchIntoWhile}
use Rattle.model.specs.declared.Call.{Call}
use Rattle.model.specs.declared.Call.TheVariants.{Sender, Receive, Control}
use Rattle.model.specs.Lists.{if, either, non_empty, keep, from}
use Rattle.model.specs.State.{State, key_of}
use Rattle.model.specs.Changes.{with_budget}
use Rattle.model.specs.Ready.{collect_ready}
use Rattle.model.specs.Turn.{settle_empty, before_next_turn, run_down, collect_if_due, polled, take_one}
use Rattle.model.specs.Receive.{take_up_to, admitted}
use Rattle.model.specs.Runs.{accepted, same_key}
use Rattle.model.specs.Rules.{outcome}
use Rattle.model.specs.Viewed.{Viewed}

pub data Event : Type 0 where
  -- the poll budget is set to 64
  budget_set : Event
  -- the ready lanes of one group, or of all groups, are collected, and some page bit is set
  collected : Event
  -- they would be, but no page bit is set
  none_marked : Event
  -- the lane with this key is found empty, and leaves the queue if it is in it
  found_empty : LaneKey → Event
  -- an untargeted receive takes an item of the lane with this key
  item_taken : LaneKey → Event
  -- and then that lane goes to the back of the queue
  went_to_back : LaneKey → Event

-- Whether a page bit is set.
unfoldable pub any_marked : State → Bool
any_marked s = non_empty (keep (λ x. (s.slot_of x).marked) (from 0 s.issued))

-- What a collection in state s is.
unfoldable pub collect_event : State → Event
collect_event s = if (any_marked s) collected none_marked

-- A budget of 0 is set to 64; another stays.
unfoldable pub refill_events : ℕ → List Event
refill_events zero = budget_set ∷ []
refill_events (suc n) = []

-- "but 64 where a non-empty queue met a budget of 0, before the poll loop or in it"
unfoldable pub before_next_turn_events : List ℕ → State → List Event
before_next_turn_events [] s = []
before_next_turn_events (y ∷ q) s = refill_events s.budget

-- Lanes at the front of the queue that are empty leave it, until one has an item or the queue is empty.
unfoldable pub run_down_from_events : List ℕ → State → List Event
run_down_from_events [] s = []
run_down_from_events (y ∷ q) s =
    if (non_empty (s.slot_of y).ring) []
    (found_empty (key_of s y) ∷ before_next_turn_events q (settle_empty y q s) ++ run_down_from_events q (before_next_turn q (settle_empty y q s)))

unfoldable pub run_down_events : State → List Event
run_down_events s = run_down_from_events s.queue s

unfoldable pub back_events : Bool → LaneKey → List Event
back_events true k = went_to_back k ∷ []
back_events false k = []

-- "The port sets the budget to 64 just before that subtraction, when an item is in fact taken"
-- "A lane that reaches a burst of 64 goes to the back." Fair: "one item of the front lane, which goes to the back"
unfoldable pub give_oldest_events : State → Bool → ℕ → List ℕ → List Event
give_oldest_events s fairly y [] = []
give_oldest_events s fairly y (v ∷ vs) =
    refill_events s.budget ++ (item_taken (key_of s y) ∷ back_events (either fairly (leb 63 (s.slot_of y).burst)) (key_of s y))

unfoldable pub give_front_events : Bool → State → List ℕ → List Event
give_front_events fairly s [] = []
give_front_events fairly s (y ∷ q) = give_oldest_events s fairly y (s.slot_of y).ring

-- "budget 0 and queue non-empty, collect one group and set the budget to 64"
unfoldable pub collect_if_due_events : ℕ → List ℕ → State → List Event
collect_if_due_events zero (y ∷ q) s = collect_event s ∷ budget_set ∷ []
collect_if_due_events zero [] s = []
collect_if_due_events (suc n) q s = []

-- "then the poll loop, which goes on until it has an item or nothing is queued and nothing is ready"
unfoldable pub collect_if_none_queued_events : List ℕ → State → List Event
collect_if_none_queued_events [] s = collect_event s ∷ run_down_events (collect_ready s)
collect_if_none_queued_events (y ∷ q) s = []

unfoldable pub polled_events : State → List Event
polled_events s =
    let due = collect_if_due s.budget s.queue s in
    let t = run_down due in
    collect_if_due_events s.budget s.queue s ++ (run_down_events due ++ collect_if_none_queued_events t.queue t)

unfoldable pub take_one_events : State → List Event
take_one_events s = polled_events s ++ (let t = polled s in give_front_events false t t.queue)

-- "Fair: collect all groups if any is ready, budget 64, one item of the front lane, which goes to the back."
unfoldable pub take_fair_events : State → List Event
take_fair_events s =
    let full = with_budget 64 (collect_ready s) in
    let t = run_down full in
    collect_event s ∷ budget_set ∷ run_down_events full ++ give_front_events true t t.queue

-- An item and what follows it; or nothing, and then nothing follows.
unfoldable pub and_more_events : List (LaneKey × ℕ) → List Event → List Event
and_more_events [] es = []
and_more_events (g ∷ gs) es = es

-- "Batch: until the limit, or until nothing is queued and nothing is ready"
unfoldable pub take_up_to_events : ℕ → State → List Event
take_up_to_events zero s = []
take_up_to_events (suc m) s = let t = take_one s in take_one_events s ++ and_more_events t.0 (take_up_to_events m t.1)

-- Document 02, N2: "it stops in front of the first item not admitted, after any collection due there": n items, the poll, and a budget of 0 set to 64.
unfoldable pub halted_events : ℕ → State → List Event
halted_events n s = let u = (take_up_to n s).1 in take_up_to_events n s ++ (polled_events u ++ refill_events (polled u).budget)

unfoldable pub take_while_events : ℕ → ℕ → State → List Event
take_while_events bound limit s =
    let l = (take_up_to limit s).0 in
    let n = admitted bound l in
    if (ltb n (length l)) (halted_events n s) (take_up_to_events limit s)

-- "Targeted: counts in neither burst nor budget". A lane that it finds empty settles.
unfoldable pub take_from_events : List ℕ → ℕ → State → List Event
take_from_events [] x s = found_empty (key_of s x) ∷ []
take_from_events (v ∷ vs) x s = []

unfoldable pub receive_events : State → ReceiveCall → List Event
receive_events s TryRecv = take_one_events s
receive_events s TryRecvFair = take_fair_events s
receive_events s (TryRecvFrom i) = take_from_events (s.slot_of i.key.slot).ring i.key.slot s
receive_events s (TryRecvBatchInto limit room) = take_up_to_events limit s
receive_events s (TryRecvBatchIntoWhile limit bound room) = take_while_events bound limit s

-- The events of a call. One that is refused has none: "a refusal leaves state, both stores and the output unchanged".
unfoldable pub call_events : State → Call → List Event
call_events s (Receive r) = if (accepted (outcome s (Receive r)).1.0) (receive_events s r) []
call_events s (Sender c) = []
call_events s (Control c) = []

-- The events of a list of calls W, each on the state that the last one left: of each call those that the rules write down for it, in the rules' state that
-- its state stands for.
unfoldable pub events_from : (W : Viewed) → W.rules.State → List Call → List Event
events_from W s [] = []
events_from W s (c ∷ cs) = call_events (W.view s) c ++ events_from W (W.rules.step s c).1 cs

-- The events of a run from its opening, which sets the budget: "No sender yet; poll budget 64; group cursor 0."
unfoldable pub run_events : (W : Viewed) → Opening → W.rules.Stores → List Call → List Event
run_events W o lent calls = budget_set ∷ events_from W (W.rules.opens o lent).1 calls

-- What an event is.
unfoldable pub collects : Event → Bool
collects budget_set = false
collects collected = true
collects none_marked = false
collects (found_empty j) = false
collects (item_taken j) = false
collects (went_to_back j) = false

unfoldable pub finds_none_marked : Event → Bool
finds_none_marked budget_set = false
finds_none_marked collected = false
finds_none_marked none_marked = true
finds_none_marked (found_empty j) = false
finds_none_marked (item_taken j) = false
finds_none_marked (went_to_back j) = false

unfoldable pub takes_item : Event → Bool
takes_item budget_set = false
takes_item collected = false
takes_item none_marked = false
takes_item (found_empty j) = false
takes_item (item_taken j) = true
takes_item (went_to_back j) = false

unfoldable pub takes_item_of : LaneKey → Event → Bool
takes_item_of k budget_set = false
takes_item_of k collected = false
takes_item_of k none_marked = false
takes_item_of k (found_empty j) = false
takes_item_of k (item_taken j) = same_key j k
takes_item_of k (went_to_back j) = false

unfoldable pub finds_empty : LaneKey → Event → Bool
finds_empty k budget_set = false
finds_empty k collected = false
finds_empty k none_marked = false
finds_empty k (found_empty j) = same_key j k
finds_empty k (item_taken j) = false
finds_empty k (went_to_back j) = false

-- How many events of a list pass a test.
unfoldable pub count_events : (Event → Bool) → List Event → ℕ
count_events p [] = 0
count_events p (e ∷ es) = if (p e) 1 0 + count_events p es

-- The lanes of the items taken, in order.
unfoldable pub lanes_of_items : List Event → List LaneKey
lanes_of_items [] = []
lanes_of_items (budget_set ∷ es) = lanes_of_items es
lanes_of_items (collected ∷ es) = lanes_of_items es
lanes_of_items (none_marked ∷ es) = lanes_of_items es
lanes_of_items (found_empty k ∷ es) = lanes_of_items es
lanes_of_items (item_taken k ∷ es) = k ∷ lanes_of_items es
lanes_of_items (went_to_back k ∷ es) = lanes_of_items es
