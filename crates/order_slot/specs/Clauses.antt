-- "A store in order", clause by clause, over the words: what the test looks at. Every slot, page and group that is asked about exists.
-- Assumes nothing.
use Rattle.std.specs.Prelude.{◌≡◌, ◌≢◌, List, ℕ, ◌+◌, ◌*◌, ◌^◌, ◌≤◌, ◌<◌, length}
use Rattle.model.specs.Lists.{count, keep, from}
use Rattle.lane.specs.declared.lane.Lane.{Lane}
use Rattle.yring.specs.Cursor.{Capacity}
use Rattle.lane.specs.Order.{InOrder}
use Rattle.lane.specs.Table.{cell_at, lane_at}
use Rattle.queues.specs.Header.{issued, queue_front, queue_count, free_count, slots, budget, group_cursor, alive, capacity, first_cursor, fast_slot, lane_count, living_count, held_count}
use Rattle.queues.specs.Queue.{queue_of}
use Rattle.queues.specs.Registry.{free_of}
use Rattle.ready.specs.Bits.{bit}
use Rattle.ready.specs.Ready.{page_word, group_word, page_bit, group_bit, non_zero, group_count}
use Rattle.store.specs.View.{flag}
use Rattle.store.specs.Order.{Flag, Flags, Fast}
use Rattle.store.specs.Held.{walked_held}

-- "Stores have at least the lengths that the opening asked for."
pub record LengthsHold (t r : List ℕ) : Type 0 where
  -- "C is a power of two; C, S .. are ones an opening takes"
  pub some_slots : 1 ≤ slots t
  pub slots_most : slots t ≤ 8192
  pub room : cell_at 0 (slots t) ≤ length t
  pub power : Capacity (capacity t)
  pub rings_room : slots t * capacity t ≤ length r

-- the header's words that name slots or places, or count them
pub record PlacesHold (t : List ℕ) : Type 0 where
  -- "issued slots are at most S"
  pub issued_most : issued t ≤ slots t
  pub front_in : queue_front t < slots t
  pub count_most : queue_count t ≤ slots t
  pub free_most : free_count t ≤ slots t
  -- "`fast_slot`, which is below S"
  pub fast_below : fast_slot t < slots t

-- the header's other words
pub record LimitsHold (t : List ℕ) : Type 0 where
  pub alive_flag : Flag (alive t)
  -- "the budget is at most 64"
  pub budget_most : budget t ≤ 64
  -- "the group cursor is at most the groups that exist"
  pub cursor_most : group_cursor t ≤ group_count (issued t)
  -- "first cursor and first generation are ones an opening takes": any u64
  pub first_cursor : first_cursor t < 2 ^ 64

pub record HeaderHolds (t r : List ℕ) : Type 0 where
  pub lengths : LengthsHold t r
  pub places : PlacesHold t
  pub limits : LimitsHold t

-- a list of slots: "slot numbers are of issued slots", and none is there twice
pub record Names (issued : ℕ) (names : List ℕ) : Type 0 where
  pub once : (x : ℕ) → count x names ≤ 1
  pub issued_only : (x : ℕ) → 1 ≤ count x names → x < issued

-- a slot with a registered lane; it stands `queued` times in the queue and `free` times in the free list
pub record RegisteredHolds (t : List ℕ) (l : Lane) (x queued free : ℕ) : Type 0 where
  -- "Per registered lane"
  pub lane : InOrder (capacity t) l
  -- "The queue names each queued lane once and no paused one."
  pub queued_is : l.queued ≡ queued
  pub unpaused : 1 ≤ queued → l.paused ≡ 0
  -- "Free slots .. hold no lane"
  pub not_free : free ≡ 0
  -- "A registered lane that is pending, unpaused and unqueued has its page bit set"
  pub is_marked : l.paused ≡ 0 → l.pending ≡ 1 → queued ≡ 0 → page_bit t x ≡ 1
  -- "Only the front lane, at `fast_slot`, has a window, at most the budget"
  pub window : 0 < l.window → Fast x (fast_slot t) (queue_of t) l.window (budget t)

-- a slot without
pub record UnregisteredHolds (generation queued free : ℕ) : Type 0 where
  pub unqueued : queued ≡ 0
  -- "Free slots .. had a last generation below 2^64 - 1"
  pub generation_below : 1 ≤ free → generation ≢ 18446744073709551615

pub record SlotHolds (t : List ℕ) (l : Lane) (x queued free : ℕ) : Type 0 where
  -- "flags and signals hold one of their two values"
  pub flags : Flags l
  pub registered : l.registered ≡ 1 → RegisteredHolds t l x queued free
  pub unregistered : l.registered ≡ 0 → UnregisteredHolds l.key.generation queued free

abbrev pub SlotsHold : List ℕ → (ℕ → ℕ) → (ℕ → ℕ) → Type 0
SlotsHold t queued free = (x : ℕ) → x < issued t → SlotHolds t (lane_at t x) x (queued x) (free x)

-- of the first n slots, how many have a registered lane, and how many a living sender
unfoldable pub registered_below : List ℕ → ℕ → ℕ
registered_below t n = length (keep (λ x. flag (lane_at t x).registered) (from 0 n))

unfoldable pub living_below : List ℕ → ℕ → ℕ
living_below t n = length (keep (λ x. flag (lane_at t x).living) (from 0 n))

-- "counts of lanes and living senders are true"
pub record CountsHold (t : List ℕ) : Type 0 where
  pub lanes : lane_count t ≡ registered_below t (issued t)
  pub living : living_count t ≡ living_below t (issued t)
  -- document 02, N6: "A store whose held count is untrue is not in order"; "the outer test of order still walks"
  pub held : held_count t ≡ walked_held t

-- a page's word
pub record PageHolds (t : List ℕ) (page : ℕ) : Type 0 where
  pub fits : page_word t page < 2 ^ 64
  -- "a page bit is of an issued slot"
  pub of_issued : (b : ℕ) → b < 64 → bit (page_word t page) b ≡ 1 → 64 * page + b < issued t
  -- "a page is non-zero exactly if its group bit is set"
  pub linked : group_bit t page ≡ non_zero (page_word t page)

-- a group's word; its bits are of pages that exist
pub record GroupHolds (t : List ℕ) (group : ℕ) : Type 0 where
  pub fits : group_word t group < 2 ^ 64
  pub of_pages : (b : ℕ) → b < 64 → bit (group_word t group) b ≡ 1 → 64 * (64 * group + b) < issued t

abbrev pub PagesHold : List ℕ → Type 0
PagesHold t = (page : ℕ) → 64 * page < issued t → PageHolds t page

abbrev pub GroupsHold : List ℕ → Type 0
GroupsHold t = (group : ℕ) → 4096 * group < issued t → GroupHolds t group

-- all clauses
pub record Clauses (t r : List ℕ) : Type 0 where
  pub header : HeaderHolds t r
  pub queue : Names (issued t) (queue_of t)
  pub free : Names (issued t) (free_of t)
  pub each_slot : SlotsHold t (λ x. count x (queue_of t)) (λ x. count x (free_of t))
  pub counts : CountsHold t
  pub pages : PagesHold t
  pub groups : GroupsHold t
