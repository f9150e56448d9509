-- The poll budget after a receive that hands out nothing: by the state before it, and by what happens in it.
-- Said of every state in order, and so of every state in a run from an accepted opening.
-- Assumes nothing.
use Rattle.std.specs.Prelude.{◌≡◌, Bool, true, false, List, [], ◌∷◌, ℕ, zero, suc, leb}
use Rattle.model.specs.declared.ReceiveCall.{ReceiveCall}
use Rattle.model.specs.declared.ReceiveCall.TheVariants.{TryRecv, TryRecvFair, TryRecvFrom, TryRecvBatchInto, TryRecvBatchIntoWhile}
use Rattle.model.specs.declared.Call.TheVariants.{Receive}
use Rattle.model.specs.Lists.{if}
use Rattle.model.specs.State.{State}
use Rattle.model.specs.Ready.{collect_ready}
use Rattle.model.specs.Turn.{refill}
use Rattle.model.specs.Runs.{accepted}
use Rattle.model.specs.Stretch.{says_stopped}
use Rattle.model.specs.Events.{Event, budget_set, collected, none_marked, found_empty, item_taken, went_to_back, call_events, count_events}
use Rattle.model.specs.Viewed.{Viewed}

-- ---- by the state before

-- "plain, 0 where it was 0, but 64 where a non-empty queue met a budget of 0, before the poll loop or in it"
-- Of the budget and the queue before the call, and the lanes queued once all groups are collected, which the poll loop does where none is queued.
unfoldable pub budget_left_by : ℕ → List ℕ → List ℕ → ℕ
-- another budget than 0 meets no such queue, and is as it was;
budget_left_by (suc n) q ready = suc n
-- "before the poll loop": the queue that the call finds;
budget_left_by zero (y ∷ q) ready = 64
-- "or in it": of two lanes or more the first is found empty, and the others are the queue that meets it;
budget_left_by zero [] (y ∷ x ∷ ready) = 64
-- else "0 where it was 0".
budget_left_by zero [] (y ∷ []) = 0
budget_left_by zero [] [] = 0

-- "fair, always 64". A batch as plain; one of limit 0 takes no turn. "Targeted: counts in neither burst nor budget"
unfoldable pub budget_left : State → ReceiveCall → ℕ
budget_left s TryRecv = budget_left_by s.budget s.queue (collect_ready s).queue
budget_left s TryRecvFair = 64
budget_left s (TryRecvBatchInto zero room) = s.budget
budget_left s (TryRecvBatchInto (suc n) room) = budget_left_by s.budget s.queue (collect_ready s).queue
budget_left s (TryRecvBatchIntoWhile zero bound room) = s.budget
budget_left s (TryRecvBatchIntoWhile (suc n) bound room) = budget_left_by s.budget s.queue (collect_ready s).queue
budget_left s (TryRecvFrom i) = s.budget

-- A receive that is not refused hands out nothing: those that answer Empty or Disconnected, a batch of limit 0, and one that stops at count 0.
pub record HandsNothing (W : Viewed) (w : W.rules.State) (r : ReceiveCall) : Type 0 where
  pub in_order : W.Ok w
  pub no_item : W.rules.hands w r ≡ []
  pub not_refused : accepted (W.rules.step w (Receive r)).0 ≡ true

-- "a call that answers Empty or Disconnected leaves the Rust's budget"
unfoldable pub BudgetAfterNothing : Viewed → Type 0
BudgetAfterNothing W =
    (w : W.rules.State) (r : ReceiveCall) → HandsNothing W w r → says_stopped (W.rules.step w (Receive r)).0 ≡ false
    → (W.view (W.rules.step w (Receive r)).1).budget ≡ budget_left (W.view w) r

-- Document 02, N2: a stop at count 0 leaves a budget of 0 at 64, as just before an item is taken, and any other as it was.
unfoldable pub BudgetAfterStop : Viewed → Type 0
BudgetAfterStop W =
    (w : W.rules.State) (r : ReceiveCall) → HandsNothing W w r → says_stopped (W.rules.step w (Receive r)).0 ≡ true
    → (W.view (W.rules.step w (Receive r)).1).budget ≡ refill (W.view w).budget

-- ---- by what happens

unfoldable pub sets_budget : Event → Bool
sets_budget budget_set = true
sets_budget collected = false
sets_budget none_marked = false
sets_budget (found_empty j) = false
sets_budget (item_taken j) = false
sets_budget (went_to_back j) = false

-- The budget is 64 if one of the call's events sets it, and else as it was. Where nothing is handed out, these events are of a fair receive,
-- of "a non-empty queue [that] met a budget of 0, before the poll loop or in it" (`collect_if_due_events`, `before_next_turn_events` in Events.antt), or of a stop.
unfoldable pub BudgetAsEventsSet : Viewed → Type 0
BudgetAsEventsSet W =
    (w : W.rules.State) (r : ReceiveCall) → HandsNothing W w r
    → (W.view (W.rules.step w (Receive r)).1).budget
    ≡ if (leb 1 (count_events sets_budget (call_events (W.view w) (Receive r)))) 64 (W.view w).budget
