-- The state that the rules are about: the slots with their lanes, the queue, the free list and the receiver's counters.
-- Cursors, windows, cached counts and bit words are in the code only: no answer depends on them.
-- Assumes nothing.
use Rattle.std.specs.Prelude.{Bool, false, not, List, [], ℕ, ◌+◌, ◌-◌, ◌/◌, max, min, length, leb, eqb}
use Rattle.model.specs.declared.LaneKey.{LaneKey}
use Rattle.model.specs.declared.OpenedChannel.{OpenedChannel}
use Rattle.model.specs.declared.LaneId.{LaneId}
use Rattle.model.specs.Lists.{if, both, count, keep, from, total}

-- A slot: its lane, if one is registered, and what stays in it when none is.
pub record Slot : Type 0 where
  -- a lane of this slot is registered
  pub registered : Bool
  -- its sender is not dropped; "A lane closed while its sender lives still counts that sender as living."
  pub living : Bool
  -- "a lane is paused from an accepted pause to an accepted resume"
  pub paused : Bool
  -- the lane's signal: pending, or idle
  pub pending : Bool
  -- the slot's bit in its page
  pub marked : Bool
  pub generation : ℕ
  -- the items in the lane's ring, oldest first
  pub ring : List ℕ
  -- items taken whose credit has not gone back to the sender
  pub unreleased : ℕ
  -- items taken in this turn at the front
  pub burst : ℕ

pub record State : Type 0 where
  pub slot_of : ℕ → Slot
  -- slots of the queued lanes, front first
  pub queue : List ℕ
  -- free slots, the one freed last first
  pub free : List ℕ
  -- slots 0 to issued - 1 have been issued
  pub issued : ℕ
  -- the poll budget
  pub budget : ℕ
  -- the group cursor
  pub cursor : ℕ
  -- the receiver is open
  pub is_open : Bool
  -- "C"
  pub capacity : ℕ
  -- "S"
  pub slots : ℕ
  -- the channel's id and the opening's number
  pub channel : OpenedChannel
  pub first_generation : ℕ

-- A slot that was never issued.
unfoldable pub vacant : Slot
vacant = record {
  registered = false;
  living = false;
  paused = false;
  pending = false;
  marked = false;
  generation = 0;
  ring = [];
  unreleased = 0;
  burst = 0;
}

abbrev pub queued : State → ℕ → Bool
queued s x = leb 1 (count x s.queue)

-- A lane that may be queued: registered, "unpaused and unqueued".
unfoldable pub may_queue : State → ℕ → Bool
may_queue s x = both (s.slot_of x).registered (both (not (s.slot_of x).paused) (not (queued s x)))

-- The number of registered lanes.
unfoldable pub registered_lanes : State → ℕ
registered_lanes s = length (keep (λ x. (s.slot_of x).registered) (from 0 s.issued))

-- The number of living senders; those of closed lanes are among them.
unfoldable pub living_senders : State → ℕ
living_senders s = length (keep (λ x. (s.slot_of x).living) (from 0 s.issued))

-- "the number of items in rings of registered lanes, paused ones too"
unfoldable pub items_held : State → ℕ
items_held s = total (λ x. length (s.slot_of x).ring) (keep (λ x. (s.slot_of x).registered) (from 0 s.issued))

-- "lane key (slot, generation)"
abbrev pub key_of : State → ℕ → LaneKey
key_of s x = record { slot = x; generation = (s.slot_of x).generation }

-- "lane id (channel id, key)"; document 02, N7: "Opening takes also an opening number [..] and a lane id carries it."
abbrev pub id_of : State → LaneKey → LaneId
id_of s k = record { channel = s.channel; key = k }

-- A living sender has this key.
unfoldable pub sender_lives : State → LaneKey → Bool
sender_lives s k = both (s.slot_of k.slot).living (eqb (s.slot_of k.slot).generation k.generation)

-- A registered lane has this key.
unfoldable pub has_lane : State → LaneKey → Bool
has_lane s k = both (s.slot_of k.slot).registered (eqb (s.slot_of k.slot).generation k.generation)

-- Two openings have the same channel id and the same opening number.
abbrev pub same_opening : OpenedChannel → OpenedChannel → Bool
same_opening a b = both (eqb a.id b.id) (eqb a.opening b.opening)

-- A registered lane has this id: "channel, opening number, slot and generation all agree".
unfoldable pub has_lane_id : State → LaneId → Bool
has_lane_id s i = both (same_opening i.channel s.channel) (has_lane s i.key)

-- "push refuses exactly if the cursor's wrapped distance from the released head is C"
-- That distance is the items in the ring and those taken but not released.
unfoldable pub is_full : State → ℕ → Bool
is_full s x = leb s.capacity (length (s.slot_of x).ring + (s.slot_of x).unreleased)

-- Document 02, N1: "how many further sends the ring would take": C less the items in the ring and those taken but not released.
unfoldable pub free_places : State → ℕ → ℕ
free_places s x = s.capacity - (length (s.slot_of x).ring + (s.slot_of x).unreleased)

-- "the release batch min(max(C / 2 rounded up, 64), C)"
unfoldable pub release_batch : ℕ → ℕ
release_batch c = min (max ((c + 1) / 2) 64) c

-- The items in the ring of the lane with this key; none if it is not registered.
unfoldable pub ring_of : State → LaneKey → List ℕ
ring_of s k = if (has_lane s k) (s.slot_of k.slot).ring []
