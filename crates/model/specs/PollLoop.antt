-- The poll loop, turn by turn as the Rust writes it, and where it ends. The rules' `polled` has it as two passes over the queue.
-- Said of every state in order, and so of every state in a run from an accepted opening.
-- Assumes nothing.
use Rattle.std.specs.Prelude.{◌≡◌, ◌⊎◌, true, false, List, [], ◌∷◌, ℕ, zero, suc, length}
use Rattle.model.specs.State.{State}
use Rattle.model.specs.Changes.{with_budget}
use Rattle.model.specs.Ready.{collect_ready_group, collect_ready}
use Rattle.model.specs.Turn.{Took, settle_empty, run_down, polled, take_one, take_fair}
use Rattle.model.specs.Receive.{take_up_to, take_while}
use Rattle.model.specs.Order.{InOrder}

-- No page bit is set: "nothing is ready".
abbrev pub NothingReady : State → Type 0
NothingReady s = (y : ℕ) → (s.slot_of y).marked ≡ false

-- "nothing is queued and nothing is ready"
pub record NothingLeft (s : State) : Type 0 where
  pub none_queued : s.queue ≡ []
  pub none_ready : NothingReady s

-- n items are taken, or nothing is left in the state after.
unfoldable pub TakesUnlessNothingLeft : ℕ → Took → Type 0
TakesUnlessNothingLeft n t = (length t.0 ≡ n) ⊎ NothingLeft t.1

-- "the poll loop, which goes on until it has an item or nothing is queued and nothing is ready"
unfoldable pub PlainUnlessNothingLeft : Type 0
PlainUnlessNothingLeft = (s : State) → InOrder s → TakesUnlessNothingLeft 1 (take_one s)

unfoldable pub FairUnlessNothingLeft : Type 0
FairUnlessNothingLeft = (s : State) → InOrder s → TakesUnlessNothingLeft 1 (take_fair s)

-- "Batch: until the limit, or until nothing is queued and nothing is ready"
unfoldable pub BatchUnlessNothingLeft : Type 0
BatchUnlessNothingLeft = (limit : ℕ) (s : State) → InOrder s → TakesUnlessNothingLeft limit (take_up_to limit s)

-- Document 02, N2: "The batch is the plain one, but below its limit it stops": the limit is reached, or nothing is left, or it stopped.
unfoldable pub WhileUnlessNothingLeft : Type 0
WhileUnlessNothingLeft =
    (bound limit : ℕ) (s : State) → InOrder s
    → ((take_while bound limit s).0 ≡ true) ⊎ TakesUnlessNothingLeft limit (take_while bound limit s).1

-- What the Rust does before each turn, in `try_recv_inner` and in `refresh_active`: all groups are collected where nothing is queued;
-- one group, with a budget of 64 from then on, where a non-empty queue meets a budget of 0.
unfoldable pub refreshed : List ℕ → ℕ → State → State
refreshed [] budget s = collect_ready s
refreshed (y ∷ q) zero s = with_budget 64 (collect_ready_group s)
refreshed (y ∷ q) (suc n) s = s

abbrev pub refresh_active : State → State
refresh_active s = refreshed s.queue s.budget s

-- The Rust's turns at the front, from where `refresh_active` was done, and the state in which they end: nothing is queued, or the front lane has an item.
-- An empty lane leaves, and `refresh_active` comes before the next turn.
pub data Turns : State → State → Type 0 where
  nothing_queued : (s : State) → s.queue ≡ [] → Turns s s
  has_item : (s : State) (y v : ℕ) (q vs : List ℕ) → s.queue ≡ y ∷ q → (s.slot_of y).ring ≡ v ∷ vs → Turns s s
  found_empty : (s u : State) (y : ℕ) (q : List ℕ) → s.queue ≡ y ∷ q → (s.slot_of y).ring ≡ [] → Turns (refresh_active (settle_empty y q s)) u → Turns s u

-- The rules' plain receive comes to the state in which the Rust's loop ends, though it collects less often,
unfoldable pub PolledAsLoop : Type 0
PolledAsLoop = (s : State) → InOrder s → Turns (refresh_active s) (polled s)

-- and so does the fair one, which collects once.
unfoldable pub FairAsLoop : Type 0
FairAsLoop = (s : State) → InOrder s → let t = with_budget 64 (collect_ready s) in Turns (refresh_active t) (run_down t)

-- Where an item is to be taken at a budget of 0, no page bit is set: a collection there would find nothing.
unfoldable pub NothingReadyAtZero : Type 0
NothingReadyAtZero = (s : State) → InOrder s → (polled s).budget ≡ 0 → NothingReady (polled s)
