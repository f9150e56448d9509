-- The events of four runs, computed, and the words of the sentences on 64 on one event of each kind.
-- In the first run both limits of 64 are met: one turn, and one time between two collections, of 64 items.
-- Assumes nothing.
use Rattle.std.specs.Prelude.{◌≡◌, refl, true, false, List, [], ◌∷◌, ◌++◌, ℕ, zero, suc}
use Rattle.model.specs.declared.LaneKey.{LaneKey}
use Rattle.model.specs.declared.Opening.{Opening}
use Rattle.model.specs.declared.SenderCall.TheVariants.{RegisterSender, TrySend}
use Rattle.model.specs.declared.ReceiveCall.TheVariants.{TryRecv, TryRecvFair, TryRecvFrom, TryRecvBatchInto, TryRecvBatchIntoWhile}
use Rattle.model.specs.declared.ControlCall.TheVariants.{Pause}
use Rattle.model.specs.declared.Call.{Call}
use Rattle.model.specs.declared.Call.TheVariants.{Sender, Receive, Control}
use Rattle.model.specs.Runs.{Lent, accepted, after_list, same_key}
use Rattle.model.specs.Viewed.{rules_viewed}
use Rattle.model.specs.Events.{Event, budget_set, collected, none_marked, found_empty, item_taken, went_to_back, any_marked, collect_event, refill_events, before_next_turn_events, run_down_from_events, run_down_events, back_events, give_oldest_events, give_front_events, collect_if_due_events, collect_if_none_queued_events, polled_events, take_one_events, take_fair_events, and_more_events, take_up_to_events, halted_events, take_while_events, take_from_events, receive_events, call_events, events_from, run_events, collects, finds_none_marked, takes_item, takes_item_of, finds_empty, count_events}
use Rattle.model.specs.OneTurn.{ends_turn_of}
use Rattle.model.specs.Budget.{items_counted_from, items_since_set}
use Rattle.model.specs.Examples.Pairs.{Reads}
use Rattle.model.proofs.Examples.Calls.{compute}

-- two slots of capacity 128
unfoldable pub two_slots : Opening
two_slots = record { capacity = 128; slots = 2; channel = 7; cursor = 0; generation = 0; number = 0 }

unfoldable pub lent : Lent
lent = record { rings = 256; table = 560 }

unfoldable pub lane : ℕ → LaneKey
lane x = record { slot = x; generation = 0 }

unfoldable pub repeat : {A : Type 0} → ℕ → A → List A
repeat zero a = []
repeat (suc n) a = a ∷ repeat n a

unfoldable pub registers : Call
registers = Sender (RegisterSender 2)

unfoldable pub sends : ℕ → Call
sends x = Sender (TrySend (lane x) 5)

unfoldable pub plain : Call
plain = Receive TryRecv

unfoldable pub compute_events : Unit {0}
unfolding compute two_slots lent lane repeat registers sends plain accepted after_list any_marked collect_event refill_events before_next_turn_events run_down_from_events run_down_events back_events give_oldest_events give_front_events collect_if_due_events collect_if_none_queued_events polled_events take_one_events take_fair_events and_more_events take_up_to_events halted_events take_while_events take_from_events receive_events call_events events_from run_events
compute_events = tt

-- lane 0 has 65 items, and lane 1 gets one after the first of them is taken: lane 0 gives 64 in one turn, all between two collections
limits_met :
    run_events rules_viewed two_slots lent (registers ∷ registers ∷ repeat 65 (sends 0) ++ (plain ∷ sends 1 ∷ repeat 64 plain))
    ≡ budget_set ∷ collected ∷ repeat 64 (item_taken (lane 0)) ++ (went_to_back (lane 0) ∷ collected ∷ budget_set ∷ item_taken (lane 0) ∷ [])
unfolding compute_events
limits_met = refl

-- with nothing sent to lane 1 no page bit is set when a collection is due, and the items go on
nothing_to_collect :
    run_events rules_viewed two_slots lent (registers ∷ repeat 65 (sends 0) ++ repeat 65 plain)
    ≡ budget_set ∷ collected ∷ repeat 64 (item_taken (lane 0)) ++ (went_to_back (lane 0) ∷ none_marked ∷ budget_set ∷ item_taken (lane 0) ∷ [])
unfolding compute_events
nothing_to_collect = refl

-- the budget is then 64 less one item
budget_then : items_since_set (run_events rules_viewed two_slots lent (registers ∷ repeat 65 (sends 0) ++ repeat 65 plain)) ≡ 1
unfolding compute_events items_since_set items_counted_from
budget_then = refl

-- every kind of event: 64 items of lane 0 in a batch, "pause it, send one to lane 1": nothing is queued and the budget is 0, so it is set when the item is
-- taken; then a fair receive, which finds lane 1 empty, a batch of the two items sent next, and a targeted receive of nothing
each_event :
    run_events rules_viewed two_slots lent
    (registers ∷ registers ∷ repeat 64 (sends 0) ++ (Receive (TryRecvBatchInto 64 64) ∷ Control (Pause record { channel = record { id = 7; opening = 0 }; key = lane 0 }) ∷ sends 1 ∷ plain ∷ Receive TryRecvFair ∷ sends 1 ∷ sends 1
    ∷ Receive (TryRecvBatchInto 3 3) ∷ Receive (TryRecvFrom record { channel = record { id = 7; opening = 0 }; key = lane 0 }) ∷ []))
    ≡ budget_set ∷ collected ∷ repeat 64 (item_taken (lane 0)) ++ (went_to_back (lane 0) ∷ collected ∷ budget_set ∷ item_taken (lane 1) ∷ none_marked ∷ budget_set ∷ found_empty (lane 1)
    ∷ collected ∷ item_taken (lane 1) ∷ item_taken (lane 1) ∷ found_empty (lane 1) ∷ none_marked ∷ found_empty (lane 0) ∷ [])
unfolding compute_events
each_event = refl

-- "one item of the front lane, which goes to the back": two fair receives; "Targeted: counts in neither burst nor budget": then one that takes lane 0's second item
fair_and_targeted :
    run_events rules_viewed two_slots lent (registers ∷ registers ∷ sends 0 ∷ sends 0 ∷ sends 1 ∷ Receive TryRecvFair ∷ Receive TryRecvFair ∷ Receive (TryRecvFrom record { channel = record { id = 7; opening = 0 }; key = lane 0 }) ∷ [])
    ≡ budget_set ∷ collected ∷ budget_set ∷ item_taken (lane 0) ∷ went_to_back (lane 0) ∷ none_marked ∷ budget_set ∷ item_taken (lane 1) ∷ went_to_back (lane 1) ∷ []
unfolding compute_events
fair_and_targeted = refl

-- Document 02, N2: "it stops in front of the first item not admitted, after any collection due there": after 64 items of lane 0 one is due, which finds
-- lane 1's bit; no item is taken
stop_collects :
    run_events rules_viewed two_slots lent (registers ∷ registers ∷ repeat 65 (sends 0) ++ (plain ∷ sends 1 ∷ repeat 63 plain ++ (Receive (TryRecvBatchIntoWhile 3 4 3) ∷ [])))
    ≡ budget_set ∷ collected ∷ repeat 64 (item_taken (lane 0)) ++ (went_to_back (lane 0) ∷ collected ∷ budget_set ∷ [])
unfolding compute_events
stop_collects = refl

-- with nothing queued and a budget of 0 all groups are collected, and the budget is set at the stop; then the item, and a batch that does not stop
stop_sets_budget :
    run_events rules_viewed two_slots lent
    (registers ∷ registers ∷ repeat 64 (sends 0) ++ (Receive (TryRecvBatchInto 64 64) ∷ Control (Pause record { channel = record { id = 7; opening = 0 }; key = lane 0 }) ∷ sends 1
    ∷ Receive (TryRecvBatchIntoWhile 3 4 3) ∷ plain ∷ Receive (TryRecvBatchIntoWhile 3 5 3) ∷ []))
    ≡ budget_set ∷ collected ∷ repeat 64 (item_taken (lane 0)) ++ (went_to_back (lane 0) ∷ collected ∷ budget_set ∷ item_taken (lane 1) ∷ found_empty (lane 1) ∷ none_marked ∷ [])
unfolding compute_events
stop_sets_budget = refl

-- ---- which event is what, on one of each kind, of lane 0 and of lane 1

-- the words of the sentences on 64 and of the one on signals, for computing with them
compute_words : Unit {0}
unfolding lane same_key collects finds_none_marked takes_item takes_item_of finds_empty ends_turn_of count_events
compute_words = tt

-- "between two collections"
collects_read :
    Reads collects
    ((budget_set, false)
    ∷ (collected, true)
    ∷ (none_marked, false)
    ∷ (found_empty (lane 0), false)
    ∷ (found_empty (lane 1), false)
    ∷ (item_taken (lane 0), false)
    ∷ (item_taken (lane 1), false)
    ∷ (went_to_back (lane 0), false)
    ∷ (went_to_back (lane 1), false)
    ∷ [])
unfolding compute_words
collects_read = refl

-- "while a page bit is set"
finds_none_marked_read :
    Reads finds_none_marked
    ((budget_set, false)
    ∷ (collected, false)
    ∷ (none_marked, true)
    ∷ (found_empty (lane 0), false)
    ∷ (found_empty (lane 1), false)
    ∷ (item_taken (lane 0), false)
    ∷ (item_taken (lane 1), false)
    ∷ (went_to_back (lane 0), false)
    ∷ (went_to_back (lane 1), false)
    ∷ [])
unfolding compute_words
finds_none_marked_read = refl

-- items that "go out"
takes_read :
    Reads takes_item
    ((budget_set, false)
    ∷ (collected, false)
    ∷ (none_marked, false)
    ∷ (found_empty (lane 0), false)
    ∷ (found_empty (lane 1), false)
    ∷ (item_taken (lane 0), true)
    ∷ (item_taken (lane 1), true)
    ∷ (went_to_back (lane 0), false)
    ∷ (went_to_back (lane 1), false)
    ∷ [])
unfolding compute_words
takes_read = refl

-- those that lane 1 "gives"
takes_of_lane_read :
    Reads (takes_item_of (lane 1))
    ((budget_set, false)
    ∷ (collected, false)
    ∷ (none_marked, false)
    ∷ (found_empty (lane 0), false)
    ∷ (found_empty (lane 1), false)
    ∷ (item_taken (lane 0), false)
    ∷ (item_taken (lane 1), true)
    ∷ (went_to_back (lane 0), false)
    ∷ (went_to_back (lane 1), false)
    ∷ [])
unfolding compute_words
takes_of_lane_read = refl

-- how many there are
one_of_each : List Event
one_of_each =
    budget_set ∷ collected ∷ none_marked
    ∷ found_empty (lane 0) ∷ found_empty (lane 1)
    ∷ item_taken (lane 0) ∷ item_taken (lane 1)
    ∷ went_to_back (lane 0) ∷ went_to_back (lane 1)
    ∷ []

events_counted :
    (count_events takes_item one_of_each ≡ 2)
    × (count_events (takes_item_of (lane 1)) one_of_each ≡ 1)
unfolding compute_words one_of_each
events_counted = (refl, refl)

-- "in one turn at the front": what ends lane 1's
ends_turn_read :
    Reads (ends_turn_of (lane 1))
    ((budget_set, false)
    ∷ (collected, false)
    ∷ (none_marked, false)
    ∷ (found_empty (lane 0), false)
    ∷ (found_empty (lane 1), true)
    ∷ (item_taken (lane 0), false)
    ∷ (item_taken (lane 1), false)
    ∷ (went_to_back (lane 0), false)
    ∷ (went_to_back (lane 1), true)
    ∷ [])
unfolding compute_words
ends_turn_read = refl

-- "only when the lane is found empty": which finds lane 1 so
finds_empty_read :
    Reads (finds_empty (lane 1))
    ((budget_set, false)
    ∷ (collected, false)
    ∷ (none_marked, false)
    ∷ (found_empty (lane 0), false)
    ∷ (found_empty (lane 1), true)
    ∷ (item_taken (lane 0), false)
    ∷ (item_taken (lane 1), false)
    ∷ (went_to_back (lane 0), false)
    ∷ (went_to_back (lane 1), false)
    ∷ [])
unfolding compute_words
finds_empty_read = refl
