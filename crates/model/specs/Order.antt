-- The section "A store in order", for what of it is seen in the rules' state. Every call keeps it.
-- Assumes nothing.
use Rattle.std.specs.Prelude.{◌≡◌, true, false, List, ◌≢◌, ℕ, ◌+◌, ◌^◌, ◌≤◌, ◌<◌, length}
use Rattle.model.specs.Lists.{count}
use Rattle.model.specs.State.{Slot, State, release_batch}
use Rattle.model.specs.Ready.{groups_in}

-- Slot y, of `issued`, whose number stands n times in the queue and m times in the free list.
pub record SlotOrdered (y issued n m : ℕ) (l : Slot) : Type 0 where
  -- "The queue names each queued lane once"
  pub queued_once : n ≤ 1
  -- Reading: what it names is a registered lane.
  pub queued_registered : 1 ≤ n → l.registered ≡ true
  -- "and no paused one"
  pub queued_unpaused : 1 ≤ n → l.paused ≡ false
  -- "A registered lane that is pending, unpaused and unqueued has its page bit set"
  pub is_marked : l.registered ≡ true → l.paused ≡ false → l.pending ≡ true → n ≡ 0 → l.marked ≡ true
  -- "a page bit is of an issued slot"
  pub marked_issued : l.marked ≡ true → y < issued
  -- "slot numbers are of issued slots"; registered lanes and living senders are in issued slots
  pub registered_issued : l.registered ≡ true → y < issued
  pub living_issued : l.living ≡ true → y < issued
  pub free_issued : 1 ≤ m → y < issued
  -- "Free slots are distinct, hold no lane and had a last generation below 2^64 - 1"
  pub free_once : m ≤ 1
  pub free_unregistered : 1 ≤ m → l.registered ≡ false
  -- (a generation is a u64, so it is below 2^64 - 1 if it is not that number)
  pub free_generation : 1 ≤ m → l.generation ≢ 18446744073709551615
  -- "Per registered lane": "burst at most 63"
  pub burst_most : l.registered ≡ true → l.burst ≤ 63

abbrev pub SlotsOrdered : ℕ → List ℕ → List ℕ → (ℕ → Slot) → Type 0
SlotsOrdered issued q f l = (y : ℕ) → SlotOrdered y issued (count y q) (count y f) (l y)

pub record Sizes (capacity slots issued : ℕ) : Type 0 where
  -- "C is a power of two; C, S, first cursor and first generation are ones an opening takes"
  pub power_of_two : (log : ℕ) × (log ≤ 16) × (capacity ≡ 2 ^ log)
  pub some_slots : 1 ≤ slots
  pub most_slots : slots ≤ 8192
  -- "issued slots are at most S"
  pub issued_most : issued ≤ slots

pub record Ordered (s : State) : Type 0 where
  pub each_slot : SlotsOrdered s.issued s.queue s.free s.slot_of
  -- "the budget is at most 64"
  pub budget_most : s.budget ≤ 64
  -- "the group cursor is at most the groups that exist"
  pub cursor_most : s.cursor ≤ groups_in s.issued
  pub sizes : Sizes s.capacity s.slots s.issued

-- A lane in a ring of c places.
pub record LaneFits (c : ℕ) (l : Slot) : Type 0 where
  -- "tail - released at most C"
  pub inside : length l.ring + l.unreleased ≤ c
  -- "Between calls the unreleased count is below the batch."
  pub below_batch : l.unreleased < release_batch c

pub record RingsFit (s : State) : Type 0 where
  -- C is at least 1, as `Sizes` says too
  pub positive : 1 ≤ s.capacity
  -- "Per registered lane"
  pub each_fits : (y : ℕ) → (s.slot_of y).registered ≡ true → LaneFits s.capacity (s.slot_of y)

pub record InOrder (s : State) : Type 0 where
  pub ordered : Ordered s
  pub rings_fit : RingsFit s
