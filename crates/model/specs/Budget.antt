-- The poll budget counts items.
-- Assumes nothing.
use Rattle.std.specs.Prelude.{◌≡◌, Bool, true, false, List, [], ◌∷◌, map, ℕ, ◌+◌, ◌-◌, ◌≤◌, length}
use Rattle.model.specs.declared.Opening.{Opening}
use Rattle.model.specs.declared.ReceiveCall.{ReceiveCall}
use Rattle.model.specs.declared.ReceiveCall.TheVariants.{TryRecv, TryRecvFair, TryRecvFrom, TryRecvBatchInto, TryRecvBatchIntoWhile}
use Rattle.model.specs.declared.Call.{Call}
use Rattle.model.specs.declared.Call.TheVariants.{Receive}
use Rattle.model.specs.declared.Answer.TheVariants.{Done}
use Rattle.model.specs.Lists.{if}
use Rattle.model.specs.Viewed.{Viewed, opening_answer, state_after_run, items_of}
use Rattle.model.specs.Events.{Event, budget_set, collected, none_marked, found_empty, item_taken, went_to_back, call_events, run_events, takes_item, count_events, lanes_of_items}

-- Items counted on from n: each adds one, a setting of the budget starts again at 0.
unfoldable pub items_counted_from : ℕ → List Event → ℕ
items_counted_from n [] = n
items_counted_from n (budget_set ∷ es) = items_counted_from 0 es
items_counted_from n (item_taken k ∷ es) = items_counted_from (n + 1) es
items_counted_from n (collected ∷ es) = items_counted_from n es
items_counted_from n (none_marked ∷ es) = items_counted_from n es
items_counted_from n (found_empty k ∷ es) = items_counted_from n es
items_counted_from n (went_to_back k ∷ es) = items_counted_from n es

-- "items since its last setting"
unfoldable pub items_since_set : List Event → ℕ
items_since_set es = items_counted_from 0 es

-- "the poll budget is a number in the next state, equal to 64 less the definition's items since its last setting"
-- The number that is subtracted is at most 64.
unfoldable pub BudgetCountsItems : Viewed → Type 0
BudgetCountsItems W =
    (o : Opening) (lent : W.rules.Stores) → opening_answer W o lent ≡ Done
    → (calls : List Call) → W.runs o lent calls
    → ((W.view (state_after_run W o lent calls)).budget ≡ 64 - items_since_set (run_events W o lent calls))
    × (items_since_set (run_events W o lent calls) ≤ 64)

unfoldable pub is_targeted : ReceiveCall → Bool
is_targeted (TryRecvFrom i) = true
is_targeted TryRecv = false
is_targeted TryRecvFair = false
is_targeted (TryRecvBatchInto limit room) = false
is_targeted (TryRecvBatchIntoWhile limit bound room) = false

-- The items of a call's events are the items that it hands out, lane by lane and in order, and so are as many.
-- "Targeted: counts in neither burst nor budget": its events have no item.
pub record EventsTell (W : Viewed) : Type 0 where
  pub lanes_handed : (s : W.rules.State) → W.Ok s → (r : ReceiveCall)
      → lanes_of_items (call_events (W.view s) (Receive r)) ≡ if (is_targeted r) [] (map (λ g. g.0) (items_of W s r))
  pub as_many : (s : W.rules.State) → W.Ok s → (r : ReceiveCall)
      → count_events takes_item (call_events (W.view s) (Receive r)) ≡ if (is_targeted r) 0 (length (items_of W s r))
