-- What each call does to the held count, by its answer and by what it hands out. The sentences are those of document 02, N6.
-- Assumes nothing.
use Rattle.std.specs.Prelude.{◌≡◌, ℕ, ◌+◌, length}
use Rattle.model.specs.declared.SenderCall.TheVariants.{RegisterSender, TrySend, TrySendUnsignaled, DropSender}
use Rattle.model.specs.declared.ControlCall.TheVariants.{Pause, Resume, CloseLane, ReleaseConsumed, PollAllLanes, CloseReceiver, CountHeld}
use Rattle.model.specs.declared.Call.{Call}
use Rattle.model.specs.declared.Call.TheVariants.{Sender, Receive, Control}
use Rattle.model.specs.declared.Answer.{Answer}
use Rattle.model.specs.declared.Answer.TheVariants.{Held}
use Rattle.model.specs.Lists.{if}
use Rattle.model.specs.State.{State, items_held}
use Rattle.model.specs.Runs.{accepted, handed}
use Rattle.model.specs.Viewed.{Viewed, answer_of, view_after}

-- "sends": one that is accepted, ordinary or unsignalled, puts one item into a ring
unfoldable pub items_sent : Call → Answer → ℕ
items_sent (Sender (TrySend k v)) a = if (accepted a) 1 0
items_sent (Sender (TrySendUnsignaled k v)) a = if (accepted a) 1 0
items_sent (Sender (RegisterSender m)) a = 0
items_sent (Sender (DropSender k)) a = 0
items_sent (Receive r) a = 0
items_sent (Control c) a = 0

-- "closing [..] a lane": a close that is accepted discards the items of the lane's ring; s is the state before
unfoldable pub items_discarded : State → Call → Answer → ℕ
items_discarded s (Sender c) a = 0
items_discarded s (Receive r) a = 0
items_discarded s (Control (CloseLane i)) a = if (accepted a) (length (s.slot_of i.key.slot).ring) 0
items_discarded s (Control (Pause i)) a = 0
items_discarded s (Control (Resume i)) a = 0
items_discarded s (Control ReleaseConsumed) a = 0
items_discarded s (Control PollAllLanes) a = 0
items_discarded s (Control CloseReceiver) a = 0
items_discarded s (Control CountHeld) a = 0

-- Of any calls W: what is set in below takes W first.
module _ (W : Viewed) where
  -- What a call does to the number, "sends, every kind of receive, closing and retiring a lane": the items held after it, those that it handed out and those
  -- that it discarded are the items held before and the one that it sent. So a lane that retires, as every other thing that a call does, takes off none.
  -- That a header word is this number after every call is said of calls on words: crate `refinement`, specs/RulesOnWords.antt.
  unfoldable pub HeldAfterCall : Type 0
  HeldAfterCall =
      (s : W.rules.State) → W.Ok s → (c : Call)
      → items_held (view_after W s c) + length (handed W.rules s c) + items_discarded (W.view s) c (answer_of W s c) ≡ items_held (W.view s) + items_sent c (answer_of W s c)

  -- Held answers the sum over the lanes, of a closed receiver too. That it leaves the number is above.
  unfoldable pub HeldIsSum : Type 0
  HeldIsSum = (s : W.rules.State) → W.Ok s → answer_of W s (Control CountHeld) ≡ Held (items_held (W.view s))
