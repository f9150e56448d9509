-- The numbers of the refusals and the lines of the answers, computed against document 01's own.
-- Assumes nothing.
use Rattle.std.specs.Prelude.{refl, true, false, List, [], ◌∷◌, ℕ}
use Rattle.model.specs.declared.LaneKey.{LaneKey}
use Rattle.model.specs.declared.LaneId.{LaneId}
use Rattle.model.specs.declared.Refusal.TheVariants.{CapacityOutOfRange, SlotsOutOfRange, RingStoreShort, TableStoreShort, StoreNotInOrder, ReceiverClosed, AtCapacity, NoFreeSlot, OlderSenderLives, NoSuchSender, LaneClosed, Full, OutputShort, NoSuchLane, Malformed}
use Rattle.model.specs.declared.Answer.TheVariants.{Done, Registered, Taken, Item, Items, Stopped, Empty, Disconnected, Held, Refused}
use Rattle.model.specs.Answers.{number, Line, Word, line}
use Rattle.model.specs.Examples.Pairs.{Reads}

-- "| Place, in this order | No. |": the table's rows, from the top
refusals_numbered :
    Reads number
    ((CapacityOutOfRange, 1)
    ∷ (SlotsOutOfRange, 2)
    ∷ (RingStoreShort, 3)
    ∷ (TableStoreShort, 4)
    ∷ (StoreNotInOrder, 5)
    ∷ (ReceiverClosed, 6)
    ∷ (AtCapacity, 7)
    ∷ (NoFreeSlot, 8)
    ∷ (OlderSenderLives, 9)
    ∷ (NoSuchSender, 10)
    ∷ (LaneClosed, 12)
    ∷ (Full, 11)
    ∷ (OutputShort, 14)
    ∷ (NoSuchLane, 13)
    ∷ (Malformed, 15)
    ∷ [])
unfolding number
refusals_numbered = refl

key : LaneKey
key = record { slot = 3; generation = 8 }

id : LaneId
id = record { channel = record { id = 7; opening = 6 }; key = record { slot = 3; generation = 8 } }

says : Word → List ℕ → Line
says w ns = record { word = w; numbers = ns; after = [] }

stops_after : List ℕ → Line
stops_after ns = record { word = Word.items; numbers = ns; after = Word.stopped ∷ [] }

-- each kind of answer with its line, beside an output of 21, 22, 23
lines_written :
    Reads (λ a. line a (21 ∷ 22 ∷ 23 ∷ []))
    ((Done, says Word.done [])
    ∷ (Registered key, says Word.lane (3 ∷ 8 ∷ []))
    ∷ (Taken true 3, says Word.taken (1 ∷ 3 ∷ []))
    ∷ (Taken false 0, says Word.taken (0 ∷ 0 ∷ []))
    ∷ (Item 11 id, says Word.item (11 ∷ 3 ∷ 8 ∷ []))
    ∷ (Empty, says Word.empty [])
    ∷ (Disconnected, says Word.disconnected [])
    ∷ (Items 2, says Word.items (2 ∷ 21 ∷ 22 ∷ []))
    ∷ (Items 0, says Word.items (0 ∷ []))
    ∷ (Stopped 2, stops_after (2 ∷ 21 ∷ 22 ∷ []))
    ∷ (Stopped 0, stops_after (0 ∷ []))
    ∷ (Held 5, says Word.held (5 ∷ []))
    ∷ (Refused Full, says Word.refused (11 ∷ []))
    ∷ [])
unfolding key id says stops_after line number
lines_written = refl
