-- Where the receives end: with what was asked for, with nothing left, or, of a batch with a bound, in front of an item above it. PollLoop.antt has it of the
-- steps inside them; this is of the whole calls, which may retire lanes and give back credit after these steps.
-- Assumes nothing.
use Rattle.std.specs.Prelude.{◌≡◌, ◌⊎◌, true, ℕ, length}
use Rattle.model.specs.declared.ReceiveCall.{ReceiveCall}
use Rattle.model.specs.declared.ReceiveCall.TheVariants.{TryRecv, TryRecvFair, TryRecvFrom, TryRecvBatchInto, TryRecvBatchIntoWhile}
use Rattle.model.specs.declared.Call.TheVariants.{Receive}
use Rattle.model.specs.Viewed.{Viewed, items_of, answer_of, view_after}
use Rattle.model.specs.Stretch.{says_stopped}
use Rattle.model.specs.Disconnected.{Looks}
use Rattle.model.specs.PollLoop.{NothingLeft}

-- How many items a receive asks for: one, or its limit.
unfoldable pub items_asked : ReceiveCall → ℕ
items_asked TryRecv = 1
items_asked TryRecvFair = 1
items_asked (TryRecvFrom i) = 1
items_asked (TryRecvBatchInto limit room) = limit
items_asked (TryRecvBatchIntoWhile limit bound room) = limit

-- Plain: "until it has an item or nothing is queued and nothing is ready"; batch: "until the limit, or until nothing is queued and nothing is ready"; fair too.
-- Document 02, N2: "but below its limit it stops in front of the first item not admitted".
-- Of a plain, fair or non-zero batch receive, not refused, on a state in order; nothing is left in the state that the call leaves.
unfoldable pub EndsWithNothingLeft : Viewed → Type 0
EndsWithNothingLeft W =
    (s : W.rules.State) (r : ReceiveCall) → Looks W s r
    → ((length (items_of W s r) ≡ items_asked r) ⊎ NothingLeft (view_after W s (Receive r))) ⊎ (says_stopped (answer_of W s (Receive r)) ≡ true)
