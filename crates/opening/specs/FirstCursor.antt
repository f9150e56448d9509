-- Where a ring's cursors start.
-- Assumes nothing.
use Rattle.std.specs.Prelude.{◌≡◌, ℕ}
use Rattle.lane.specs.declared.lane.Lane.{Lane}

-- "Every ring registered, in a freed slot too, starts with its cursors at the first cursor": tail, released head, head and known tail.
pub record StartsAt (cursor : ℕ) (l : Lane) : Type 0 where
  pub tail_there : l.tail ≡ cursor
  pub released_there : l.released ≡ cursor
  pub head_there : l.head ≡ cursor
  pub known_there : l.known ≡ cursor
