-- From a point at which a page bit is set to the next collection, computed: which events are meant, and a run in which 64 of them are items, the most there can be.
-- Assumes nothing.
use Rattle.std.specs.Prelude.{◌≡◌, refl, true, [], ◌∷◌, ◌++◌, ℕ}
use Rattle.model.specs.declared.LaneId.{LaneId}
use Rattle.model.specs.declared.SenderCall.TheVariants.{TrySend}
use Rattle.model.specs.declared.ReceiveCall.TheVariants.{TryRecvBatchIntoWhile}
use Rattle.model.specs.declared.ControlCall.TheVariants.{Pause, Resume}
use Rattle.model.specs.declared.Call.TheVariants.{Sender, Receive, Control}
use Rattle.model.specs.State.{State}
use Rattle.model.specs.Runs.{after_list}
use Rattle.model.specs.Receive.{take_up_to}
use Rattle.model.specs.Opening.{opening_outcome}
use Rattle.model.specs.Rules.{the_rules}
use Rattle.model.specs.Viewed.{rules_viewed}
use Rattle.model.specs.Events.{budget_set, collected, none_marked, found_empty, item_taken, went_to_back, any_marked, take_up_to_events, take_while_events, events_from, collects, finds_none_marked}
use Rattle.model.specs.WhileMarked.{until_collected}
use Rattle.model.specs.Examples.Pairs.{Reads}
use Rattle.model.proofs.Examples.Events.{two_slots, lent, lane, repeat, registers, sends, plain, compute_events}

-- the events before the first that collects
until_collected_read :
    Reads until_collected
    (([], [])
    ∷ (collected ∷ item_taken (lane 0) ∷ [], [])
    ∷ (item_taken (lane 0) ∷ collected ∷ item_taken (lane 1) ∷ [], item_taken (lane 0) ∷ [])
    ∷ (none_marked ∷ budget_set ∷ item_taken (lane 0) ∷ collected ∷ collected ∷ [], none_marked ∷ budget_set ∷ item_taken (lane 0) ∷ [])
    ∷ (item_taken (lane 0) ∷ went_to_back (lane 0) ∷ [], item_taken (lane 0) ∷ went_to_back (lane 0) ∷ [])
    ∷ (found_empty (lane 0) ∷ item_taken (lane 1) ∷ collected ∷ [], found_empty (lane 0) ∷ item_taken (lane 1) ∷ [])
    ∷ [])
unfolding lane until_collected collects finds_none_marked
until_collected_read = refl

lane_id : ℕ → LaneId
lane_id x = record { channel = record { id = 7; opening = 0 }; key = lane x }

-- lane 0 has 66 items and is queued by a pause and a resume, with a budget of 64; then lane 1 is sent an item, which sets its page bit
point : State
point =
    after_list the_rules (opening_outcome two_slots lent).1.1
    (registers ∷ registers ∷ repeat 66 (sends 0) ++ (Control (Pause (lane_id 0)) ∷ Control (Resume (lane_id 0)) ∷ sends 1 ∷ []))

compute_point : Unit {0}
unfolding compute_events lane_id point events_from until_collected collects finds_none_marked
compute_point = tt

point_marked : any_marked point ≡ true
unfolding compute_point
point_marked = refl

-- 64 items go out, and the 65th plain receive collects first
most_met : until_collected (events_from rules_viewed point (repeat 65 plain)) ≡ repeat 64 (item_taken (lane 0)) ++ (went_to_back (lane 0) ∷ [])
unfolding compute_point
most_met = refl

-- in a batch of 66, from between its second and third item on: 62 go out
most_met_in_batch : until_collected (take_up_to_events 64 (take_up_to 2 point).1) ≡ repeat 62 (item_taken (lane 0)) ++ (went_to_back (lane 0) ∷ [])
unfolding compute_point
most_met_in_batch = refl

-- as `point`, but lane 0's 11th item is 9, the others 5
point_bound : State
point_bound =
    after_list the_rules (opening_outcome two_slots lent).1.1
    (registers ∷ registers ∷ repeat 10 (sends 0)
    ++ (Sender (TrySend (lane 0) 9) ∷ repeat 55 (sends 0) ++ (Control (Pause (lane_id 0)) ∷ Control (Resume (lane_id 0)) ∷ sends 1 ∷ [])))

compute_point_bound : Unit {0}
unfolding compute_point point_bound
compute_point_bound = tt

-- after two items, both admitted, the bit is still set
point_bound_marked : let t = take_up_to 2 point_bound in (t.0 ≡ (lane 0, 5) ∷ (lane 0, 5) ∷ []) × (any_marked t.1 ≡ true)
unfolding compute_point_bound
point_bound_marked = (refl, refl)

-- in a batch of 64 with bound 5, from there on: 8 go out before its stop, which collects nothing, and 54 by plain receives after it
most_met_in_while :
    until_collected (take_while_events 5 62 (take_up_to 2 point_bound).1
    ++ events_from rules_viewed (after_list the_rules point_bound (Receive (TryRecvBatchIntoWhile 64 5 64) ∷ [])) (repeat 55 plain))
    ≡ repeat 62 (item_taken (lane 0)) ++ (went_to_back (lane 0) ∷ [])
unfolding compute_point_bound
most_met_in_while = refl

stop_met_in_while : take_while_events 5 62 (take_up_to 2 point_bound).1 ≡ repeat 8 (item_taken (lane 0))
unfolding compute_point_bound
stop_met_in_while = refl
