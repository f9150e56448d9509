-- What document 01 calls an answer: the number of each refusal, and the line that the replay program prints, by its word and numbers.
-- Assumes nothing.
use Rattle.std.specs.Prelude.{Bool, true, false, List, [], ◌∷◌, ℕ, take}
use Rattle.model.specs.declared.Refusal.{Refusal}
use Rattle.model.specs.declared.Refusal.TheVariants.{CapacityOutOfRange, SlotsOutOfRange, RingStoreShort, TableStoreShort, StoreNotInOrder, ReceiverClosed, AtCapacity, NoFreeSlot, OlderSenderLives, NoSuchSender, LaneClosed, Full, OutputShort, NoSuchLane, Malformed}
use Rattle.model.specs.declared.Answer.{Answer}
use Rattle.model.specs.declared.Answer.TheVariants.{Done, Registered, Taken, Item, Items, Stopped, Empty, Disconnected, Held, Refused}

-- "| Place, in this order | No. | When, and only then |"
unfoldable pub number : Refusal → ℕ
-- "capacity 0 or above 65,536"
number CapacityOutOfRange = 1
-- "S 0 or above 8,192"
number SlotsOutOfRange = 2
-- "ring store short"
number RingStoreShort = 3
-- "table store short"
number TableStoreShort = 4
-- "store not in order"
number StoreNotInOrder = 5
-- "receiver closed"
number ReceiverClosed = 6
-- "registered lanes are as many as the most-lanes number, or more"
number AtCapacity = 7
-- "free list empty and slot S - 1 issued"
number NoFreeSlot = 8
-- document 02, N4: "the free list is not empty, all its slots have living older senders, and slot S - 1 has been issued"
number OlderSenderLives = 9
-- "no living sender has this key"
number NoSuchSender = 10
-- "lane closed, or the receiver (`Disconnected`)"
number LaneClosed = 12
-- "ring full (`Full`)"
number Full = 11
-- "output shorter than the limit"
number OutputShort = 14
-- "no lane with this id"
number NoSuchLane = 13
-- "malformed record; it stops"
number Malformed = 15

-- The words that stand on the lines of "Replay program": `stopped` last, the others first.
pub data Word : Type 0 where
  done lane taken item items empty disconnected held refused stopped : Word

-- A line: its word, the numbers after it, and the words after them.
pub record Line : Type 0 where
  pub word : Word
  pub numbers : List ℕ
  pub after : List Word

-- "woken: 1 or 0"
abbrev pub bit : Bool → ℕ
bit true = 1
bit false = 0

-- The line of an answer; `out` is the output as the call leaves it.
unfoldable pub line : Answer → List ℕ → Line
-- "Calls without a value print `done`."
line Done out = record { word = done; numbers = []; after = [] }
-- "`lane 0 0` (slot, generation)"
line (Registered k) out = record { word = lane; numbers = k.slot ∷ k.generation ∷ []; after = [] }
-- "`taken W F`, W as before and F that number" (document 02, N1); before: "`taken 1` (woken: 1 or 0; unsignalled always 0)"
line (Taken w f) out = record { word = taken; numbers = bit w ∷ f ∷ []; after = [] }
-- "`item 11 0 0` (item, key)"
line (Item v i) out = record { word = item; numbers = v ∷ i.key.slot ∷ i.key.generation ∷ []; after = [] }
-- "`items N` and the N values on that line"
line (Items n) out = record { word = items; numbers = n ∷ take n out; after = [] }
-- Document 02, N2: "the line `items N` followed by the items and `stopped` where it was"
line (Stopped n) out = record { word = items; numbers = n ∷ take n out; after = stopped ∷ [] }
-- "`empty`", "`disconnected`"
line Empty out = record { word = empty; numbers = []; after = [] }
line Disconnected out = record { word = disconnected; numbers = []; after = [] }
-- "`held N`; `refused N`"
line (Held n) out = record { word = held; numbers = n ∷ []; after = [] }
line (Refused r) out = record { word = refused; numbers = number r ∷ []; after = [] }
