-- The held count as a walk over the issued slots.
-- Assumes nothing.
use Rattle.std.specs.Prelude.{cond, List, ℕ, zero, suc, ◌+◌, eqb}
use Rattle.lane.specs.declared.lane.Lane.{Lane}
use Rattle.yring.specs.Cursor.{distance}
use Rattle.lane.specs.Table.{lane_at}
use Rattle.queues.specs.Header.{issued}

-- "the number of items in rings of registered lanes, paused ones too": of one lane
unfoldable pub held_in : Lane → ℕ
held_in l = cond (eqb l.registered 1) (distance l.tail l.head) 0

-- of n slots from x on
unfoldable pub held_from : List ℕ → ℕ → ℕ → ℕ
held_from t zero x = 0
held_from t (suc n) x = held_in (lane_at t x) + held_from t n (x + 1)

-- of every issued slot
abbrev pub walked_held : List ℕ → ℕ
walked_held t = held_from t (issued t) 0
