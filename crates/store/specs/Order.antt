-- "A store in order", on the words of the two stores.
-- Assumes nothing.
use Rattle.std.specs.Prelude.{◌≡◌, List, [], ◌∷◌, ℕ, ◌*◌, ◌^◌, ◌≤◌, ◌<◌, length, take}
use Rattle.model.specs.State.{registered_lanes, living_senders, items_held}
use Rattle.model.specs.Order.{Ordered}
use Rattle.lane.specs.declared.lane.Lane.{Lane}
use Rattle.yring.specs.Cursor.{Capacity}
use Rattle.lane.specs.Order.{InOrder}
use Rattle.lane.specs.Table.{lane_at}
use Rattle.queues.specs.Header.{Shaped, issued, slots, budget, alive, capacity, first_cursor, fast_slot, lane_count, living_count, held_count}
use Rattle.queues.specs.Queue.{QueueNames, queue_of}
use Rattle.ready.specs.Ready.{page_word, group_word, Linked}
use Rattle.store.specs.View.{view}

-- a word that is 0 or 1
abbrev pub Flag : ℕ → Type 0
Flag w = w ≤ 1

-- "flags and signals hold one of their two values"
pub record Flags (l : Lane) : Type 0 where
  pub pending_flag : Flag l.pending
  pub queued_flag : Flag l.queued
  pub paused_flag : Flag l.paused
  pub registered_flag : Flag l.registered
  pub living_flag : Flag l.living

-- "Only the front lane, at `fast_slot`, has a window, at most the budget"
pub record Fast (x fast : ℕ) (queue : List ℕ) (window budget : ℕ) : Type 0 where
  pub at_fast : x ≡ fast
  pub in_front : take 1 queue ≡ x ∷ []
  pub within : window ≤ budget

-- the words of pages and groups that exist are u64
pub record MarkWords (t : List ℕ) : Type 0 where
  pub pages_fit : (page : ℕ) → 64 * page < issued t → page_word t page < 2 ^ 64
  pub groups_fit : (group : ℕ) → 4096 * group < issued t → group_word t group < 2 ^ 64

-- what the words have beside what the rules' state shows
pub record Stores (t r : List ℕ) : Type 0 where
  pub shaped : Shaped t
  -- "`fast_slot`, which is below S"
  pub fast_below : fast_slot t < slots t
  pub power : Capacity (capacity t)
  -- "a ring store of at least S × C u64 words"
  pub rings_room : slots t * capacity t ≤ length r
  pub alive_flag : Flag (alive t)
  -- "first cursor and first generation are ones an opening takes": any u64
  pub first_cursor : first_cursor t < 2 ^ 64
  pub flags : (x : ℕ) → x < issued t → Flags (lane_at t x)
  -- "Per registered lane, in wrapped distances, each at most C, and sums that do not wrap"
  pub lanes : (x : ℕ) → x < issued t → (lane_at t x).registered ≡ 1 → InOrder (capacity t) (lane_at t x)
  -- "The queue names each queued lane once and no paused one."
  pub named : QueueNames t
  -- "a page is non-zero exactly if its group bit is set"; "a page bit is of an issued slot"
  pub linked : Linked t
  pub mark_words : MarkWords t
  pub windows : (x : ℕ) → x < issued t → (lane_at t x).registered ≡ 1 → 0 < (lane_at t x).window → Fast x (fast_slot t) (queue_of t) (lane_at t x).window (budget t)
  -- "counts of lanes and living senders are true"
  pub lanes_counted : lane_count t ≡ registered_lanes (view t r)
  pub living_counted : living_count t ≡ living_senders (view t r)

-- Between the parts of a call the held count is not true yet: the word is changed once, where the answer is made.
pub record InOrderButHeld (t r : List ℕ) : Type 0 where
  pub stores : Stores t r
  -- the clauses that the rules' state shows: model, specs/Order.antt
  pub ordered : Ordered (view t r)

pub record StoreInOrder (t r : List ℕ) : Type 0 where
  pub stores : Stores t r
  pub ordered : Ordered (view t r)
  -- document 02, N6: "A store whose held count is untrue is not in order."
  pub held_counted : held_count t ≡ items_held (view t r)

abbrev pub but_held : {t r : List ℕ} → StoreInOrder t r → InOrderButHeld t r
but_held o = record { stores = o.stores; ordered = o.ordered }
