-- An answer as C gets it: the call returns a tag, and puts the answer's numbers into the first of the lent words.
-- Assumes nothing.
use Rattle.std.specs.Prelude.{List, ℕ, set}
use Rattle.model.specs.declared.Answer.{Answer}
use Rattle.model.specs.declared.Answer.TheVariants.{Done, Registered, Taken, Item, Items, Stopped, Empty, Disconnected, Held, Refused}
use Rattle.model.specs.Answers.{bit, number}
use Rattle.store.specs.Words.{Words}

-- "FANRING_DONE = 0" and the others: enum fanring_tag of include/fanring.h
unfoldable pub tag : Answer → ℕ
tag Done = 0
tag (Registered k) = 1
tag (Taken w f) = 2
tag (Item v i) = 3
tag (Items n) = 4
tag (Stopped n) = 9
tag Empty = 5
tag Disconnected = 6
tag (Held n) = 7
tag (Refused why) = 8

-- the lent words after the call, of those before it; words that an answer does not use are as they were
unfoldable pub put : Answer → List ℕ → List ℕ
put Done ws = ws
-- "`lane 0 0` (slot, generation)"
put (Registered k) ws = set (set ws 0 k.slot) 1 k.generation
-- "`taken W F`, W as before and F that number" (document 02, N1); before: "`taken 1` (woken: 1 or 0; unsignalled always 0)"
put (Taken w f) ws = set (set ws 0 (bit w)) 1 f
-- "Single receives answer item and lane id (channel id, key)"; the opening number, which the id carries, comes last
put (Item v i) ws = set (set (set (set (set ws 0 v) 1 i.channel.id) 2 i.key.slot) 3 i.key.generation) 4 i.channel.opening
-- "`items N`"; the N values are in the output
put (Items n) ws = set ws 0 n
-- "it answers the count and whether it stopped so" (document 02, N2): the count as of other batches, and that it stopped is the tag
put (Stopped n) ws = set ws 0 n
put Empty ws = ws
put Disconnected ws = ws
-- "`held N`; `refused N`", N of a refusal being the number in document 01's table
put (Held n) ws = set ws 0 n
put (Refused why) ws = set ws 0 (number why)

-- "each exported call states its result, the next state and every word of the lent stores and output": the tag, the lent words and the two stores, where w is what the call leaves
unfoldable pub told : List ℕ → Words → ℕ × List ℕ × List ℕ × List ℕ
told ws w = (tag w.0, put w.0 ws, w.1, w.2)

-- the same of a call that is lent an output too
unfoldable pub told_into : List ℕ → Answer × List ℕ × List ℕ × List ℕ → ℕ × List ℕ × List ℕ × List ℕ × List ℕ
told_into ws w = (tag w.0, put w.0 ws, w.1, w.2, w.3)
