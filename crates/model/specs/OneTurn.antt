-- No lane gives more than 64 items in one turn at the front.
-- Assumes nothing.
use Rattle.std.specs.Prelude.{◌≡◌, Bool, false, List, ◌++◌, ◌≤◌}
use Rattle.model.specs.declared.LaneKey.{LaneKey}
use Rattle.model.specs.declared.Opening.{Opening}
use Rattle.model.specs.declared.Call.{Call}
use Rattle.model.specs.declared.Answer.TheVariants.{Done}
use Rattle.model.specs.Runs.{same_key}
use Rattle.model.specs.Viewed.{Viewed, opening_answer}
use Rattle.model.specs.Events.{Event, budget_set, collected, none_marked, found_empty, item_taken, went_to_back, run_events, takes_item_of, count_events}

-- The turn of lane k ends: it goes to the back, or it is found empty, by a targeted receive too.
-- A pause, a resume or a targeted receive that takes an item does not end it: the lane's burst goes on.
unfoldable pub ends_turn_of : LaneKey → Event → Bool
ends_turn_of k budget_set = false
ends_turn_of k collected = false
ends_turn_of k none_marked = false
ends_turn_of k (found_empty j) = same_key j k
ends_turn_of k (item_taken j) = false
ends_turn_of k (went_to_back j) = same_key j k

-- "Targeted receives aside, no lane gives more than 64 items in one turn at the front"
-- `part` is any part of a run's events in which no turn of lane k ends.
unfoldable pub AtMost64InOneTurn : Viewed → Type 0
AtMost64InOneTurn W =
    (o : Opening) (lent : W.rules.Stores) → opening_answer W o lent ≡ Done
    → (calls : List Call) → W.runs o lent calls
    → (before part rest : List Event) → run_events W o lent calls ≡ before ++ (part ++ rest)
    → (k : LaneKey) → count_events (ends_turn_of k) part ≡ 0 → count_events (takes_item_of k) part ≤ 64
