-- What a single receive hands out, read off its answer.
-- Assumes nothing.
use Rattle.std.specs.Prelude.{List, [], ◌∷◌, ℕ}
use Rattle.model.specs.declared.LaneKey.{LaneKey}
use Rattle.model.specs.declared.Answer.{Answer}
use Rattle.model.specs.declared.Answer.TheVariants.{Done, Registered, Taken, Item, Items, Stopped, Empty, Disconnected, Held, Refused}

-- "Single receives answer item and lane id (channel id, key)": an item of the lane with that key, or nothing.
-- A batch answers `Items` or `Stopped`; its items are in its output, and not read here.
unfoldable pub hands_of : Answer → List (LaneKey × ℕ)
hands_of (Item v i) = (i.key, v) ∷ []
hands_of (Items n) = []
hands_of (Stopped n) = []
hands_of Done = []
hands_of (Registered k) = []
hands_of (Taken w f) = []
hands_of Empty = []
hands_of Disconnected = []
hands_of (Held n) = []
hands_of (Refused why) = []
