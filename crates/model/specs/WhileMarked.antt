-- While a page bit is set: from any point at which one is, no more than 64 items go out before the next collection.
-- Said from every state in order, and so from every state in a run from an accepted opening.
-- Assumes nothing.
use Rattle.std.specs.Prelude.{◌≡◌, true, List, [], ◌∷◌, ◌++◌, ℕ, ◌+◌, ◌≤◌, length}
use Rattle.model.specs.declared.ReceiveCall.TheVariants.{TryRecvBatchInto, TryRecvBatchIntoWhile}
use Rattle.model.specs.declared.Call.{Call}
use Rattle.model.specs.declared.Call.TheVariants.{Receive}
use Rattle.model.specs.Lists.{if}
use Rattle.model.specs.Runs.{accepted}
use Rattle.model.specs.Receive.{take_up_to}
use Rattle.model.specs.Events.{Event, any_marked, take_up_to_events, take_while_events, events_from, collects, takes_item, count_events}
use Rattle.model.specs.Viewed.{Viewed}
use Rattle.model.specs.Stops.{AllAdmitted}

-- The events before the first that collects; all of them if none does.
unfoldable pub until_collected : List Event → List Event
until_collected [] = []
until_collected (e ∷ es) = if (collects e) [] (e ∷ until_collected es)

-- "while a page bit is set no more than 64 go out between two collections, however plain receives and batches mix"
-- w is any point between two calls at which a page bit is set. Whatever calls follow, no look for a collection is in vain there: the first one collects.
unfoldable pub AtMost64WhileMarked : Viewed → Type 0
AtMost64WhileMarked W =
    (w : W.rules.State) → W.Ok w → any_marked (W.view w) ≡ true
    → (calls : List Call) → count_events takes_item (until_collected (events_from W w calls)) ≤ 64

-- A point may lie between two items of a batch too: n were taken, and up to m more are to be.
unfoldable pub AtMost64WhileMarkedInBatch : Viewed → Type 0
AtMost64WhileMarkedInBatch W =
    (w : W.rules.State) → W.Ok w
    → (n m room : ℕ) → let batch = Receive (TryRecvBatchInto (n + m) room) in accepted (W.rules.step w batch).0 ≡ true
    → let t = take_up_to n (W.view w) in length t.0 ≡ n → any_marked t.1 ≡ true
    → (calls : List Call) → count_events takes_item (until_collected (take_up_to_events m t.1 ++ events_from W (W.rules.step w batch).1 calls)) ≤ 64

-- And between two items of a batch with a bound, or in front of its stop: n were taken, all admitted, and up to m more are to be.
unfoldable pub AtMost64WhileMarkedInWhile : Viewed → Type 0
AtMost64WhileMarkedInWhile W =
    (w : W.rules.State) → W.Ok w
    → (n m bound room : ℕ) → let batch = Receive (TryRecvBatchIntoWhile (n + m) bound room) in accepted (W.rules.step w batch).0 ≡ true
    → let t = take_up_to n (W.view w) in length t.0 ≡ n → AllAdmitted bound t.0 → any_marked t.1 ≡ true
    → (calls : List Call) → count_events takes_item (until_collected (take_while_events bound m t.1 ++ events_from W (W.rules.step w batch).1 calls)) ≤ 64
