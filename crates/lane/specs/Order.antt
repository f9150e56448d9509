-- A lane in order: document 01's 'A store in order', its clauses "Per registered lane, in wrapped distances, each at most C, and sums that do not wrap".
-- Assumes nothing.
use Rattle.std.specs.Prelude.{◌≡◌, ℕ, ◌+◌, ◌^◌, ◌≤◌, ◌<◌, Option, Some, None, Result, Ok, Err}
use Rattle.yring.specs.Cursor.{distance}
use Rattle.model.specs.State.{release_batch}
use Rattle.lane.specs.declared.producer.Sent.{Sent}
use Rattle.lane.specs.declared.lane.Lane.{Lane}
use Rattle.lane.specs.declared.lane.LanePoll.{LanePoll}
use Rattle.lane.specs.declared.consumer.Taken.{Taken}
use Rattle.lane.specs.declared.lane.EmptyLane.{EmptyLane}

-- the cursors, from the released head to the head, on to the known tail, on to the tail
pub record Cursors (C tail released head known : ℕ) : Type 0 where
  -- "Ring cursors are u64"
  pub tail_u64 : tail < 2 ^ 64
  pub released_u64 : released < 2 ^ 64
  pub head_u64 : head < 2 ^ 64
  pub known_u64 : known < 2 ^ 64
  -- "in wrapped distances, each at most C"
  pub head_on : distance head released ≤ C
  pub known_on : distance known head ≤ C
  -- "tail is not short of known tail"
  pub tail_on : distance tail known ≤ C
  -- "tail - released at most C"
  pub tail_within : distance tail released ≤ C

-- the counts; `taken` is head - released, and `ahead` is known tail - head
pub record Counts (batch taken ahead cached unreleased burst window : ℕ) : Type 0 where
  -- "cached + window = known tail - head"
  pub cached_is : cached + window ≡ ahead
  -- "unreleased = head - released + window, below the batch"
  pub unreleased_is : unreleased ≡ taken + window
  pub unreleased_below : unreleased < batch
  -- "window at most burst, burst at most 63"
  pub window_most : window ≤ burst
  pub burst_most : burst ≤ 63

pub record InOrder (C : ℕ) (l : Lane) : Type 0 where
  pub cursors : Cursors C l.tail l.released l.head l.known
  pub counts : Counts (release_batch C) (distance l.head l.released) (distance l.known l.head) l.cached l.unreleased l.burst l.window

-- a lane in order whose window is closed and that has an item at hand: what `refill` hands on
pub record Filled (C : ℕ) (l : Lane) : Type 0 where
  pub order : InOrder C l
  pub closed : l.window ≡ 0
  pub some : 0 < l.cached

-- a lane that was looked at and has nothing: its window is closed, and all that was published is known
pub record FoundEmpty (l : Lane) : Type 0 where
  pub closed : l.window ≡ 0
  pub none : l.cached ≡ 0
  pub looked : l.known ≡ l.tail

-- what `close_fast` asks: the window's items are in the counts
pub record Refundable (l : Lane) : Type 0 where
  pub fits : l.cached + l.window < 2 ^ 64
  pub credit : l.window ≤ l.unreleased
  pub turn : l.window ≤ l.burst

-- the lane that an answer hands back; where it has none, the lane stays as it is
abbrev pub sent_lane : Lane → Option Sent → Lane
sent_lane l (Some s) = s.lane
sent_lane l None = l

abbrev pub popped_lane : Lane → Option Taken → Lane
popped_lane l (Some taken) = taken.lane
popped_lane l None = l

abbrev pub refilled_lane : Result Lane EmptyLane → Lane
refilled_lane (Ok l) = l
refilled_lane (Err found) = found.lane

abbrev pub polled_lane : Result LanePoll EmptyLane → Lane
polled_lane (Ok p) = p.lane
polled_lane (Err found) = found.lane
