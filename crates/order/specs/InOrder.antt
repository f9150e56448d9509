-- Whether two stores are in order, as a function that computes: the clauses of crates/order_slot/specs/Clauses.antt in their order, each as a test.
-- It is for contracts of calls that test their stores first, and is not how the code tests; it looks each slot up in the queue and the free list.
-- Assumes nothing.
use Rattle.std.specs.Prelude.{Bool, true, false, not, List, [], ◌∷◌, ℕ, zero, suc, ◌+◌, ◌*◌, ◌/◌, ◌^◌, leb, ltb, eqb, length}
use Rattle.model.specs.Lists.{both, either, count}
use Rattle.model.specs.State.{release_batch}
use Rattle.lane.specs.declared.lane.Lane.{Lane}
use Rattle.yring.specs.Cursor.{distance}
use Rattle.lane.specs.Table.{cell_at, lane_at}
use Rattle.queues.specs.Header.{issued, queue_front, queue_count, free_count, slots, budget, group_cursor, alive, capacity, first_cursor, fast_slot, lane_count, living_count, held_count}
use Rattle.queues.specs.Queue.{queue_of}
use Rattle.queues.specs.Registry.{free_of}
use Rattle.ready.specs.Bits.{bit}
use Rattle.ready.specs.Ready.{page_word, group_word, page_bit, group_bit, non_zero, group_count}
use Rattle.store.specs.Held.{walked_held}
use Rattle.order_slot.specs.Clauses.{registered_below, living_below}

-- ---- tests put together

-- every test of a list says yes
abbrev pub every : List Bool → Bool
every [] = true
every (a ∷ l) = both a (every l)

-- a test that counts only if another says yes
abbrev pub implies : Bool → Bool → Bool
implies true b = b
implies false b = true

-- every number below n passes
unfoldable pub all_below : ℕ → (ℕ → Bool) → Bool
all_below zero p = true
all_below (suc n) p = both (all_below n p) (p n)

-- some number below n passes
unfoldable pub some_below : ℕ → (ℕ → Bool) → Bool
some_below zero p = false
some_below (suc n) p = either (some_below n p) (p n)

-- "flags and signals hold one of their two values"
abbrev pub flag_test : ℕ → Bool
flag_test w = leb w 1

-- ---- the lengths and the header

-- "C is a power of two", one that an opening takes
unfoldable pub capacity_test : ℕ → Bool
capacity_test C = some_below 17 (λ log. eqb C (2 ^ log))

-- "Stores have at least the lengths that the opening asked for."
unfoldable pub lengths_test : List ℕ → List ℕ → Bool
lengths_test t r =
    every (
    -- "C, S .. are ones an opening takes"
    leb 1 (slots t)
    ∷ leb (slots t) 8192
    ∷ leb (cell_at 0 (slots t)) (length t)
    ∷ capacity_test (capacity t)
    ∷ leb (slots t * capacity t) (length r)
    ∷ []
    )

-- the header's words that name slots or places, or count them
unfoldable pub places_test : List ℕ → Bool
places_test t =
    every (
    -- "issued slots are at most S"
    leb (issued t) (slots t)
    ∷ ltb (queue_front t) (slots t)
    ∷ leb (queue_count t) (slots t)
    ∷ leb (free_count t) (slots t)
    -- "`fast_slot`, which is below S"
    ∷ ltb (fast_slot t) (slots t)
    ∷ []
    )

-- the header's other words
unfoldable pub limits_test : List ℕ → Bool
limits_test t =
    every (
    flag_test (alive t)
    -- "the budget is at most 64"
    ∷ leb (budget t) 64
    -- "the group cursor is at most the groups that exist"
    ∷ leb (group_cursor t) (group_count (issued t))
    -- "first cursor and first generation are ones an opening takes": any u64
    ∷ ltb (first_cursor t) (2 ^ 64)
    ∷ []
    )

unfoldable pub header_test : List ℕ → List ℕ → Bool
header_test t r = every (lengths_test t r ∷ places_test t ∷ limits_test t ∷ [])

-- ---- the queue and the free list

-- a list of slots: "slot numbers are of issued slots", and none is there twice
unfoldable pub names_test : ℕ → List ℕ → Bool
names_test issued [] = true
names_test issued (x ∷ names) = every (ltb x issued ∷ eqb (count x names) 0 ∷ names_test issued names ∷ [])

-- ---- a lane

-- the cursors, from the released head to the head, on to the known tail, on to the tail
unfoldable pub cursors_test : ℕ → Lane → Bool
cursors_test C l =
    every (
    -- "Ring cursors are u64"
    ltb l.tail (2 ^ 64)
    ∷ ltb l.released (2 ^ 64)
    ∷ ltb l.head (2 ^ 64)
    ∷ ltb l.known (2 ^ 64)
    -- "in wrapped distances, each at most C"
    ∷ leb (distance l.head l.released) C
    ∷ leb (distance l.known l.head) C
    -- "tail is not short of known tail"
    ∷ leb (distance l.tail l.known) C
    -- "tail - released at most C"
    ∷ leb (distance l.tail l.released) C
    ∷ []
    )

-- the counts
unfoldable pub amounts_test : ℕ → Lane → Bool
amounts_test C l =
    every (
    -- "cached + window = known tail - head"
    eqb (l.cached + l.window) (distance l.known l.head)
    -- "unreleased = head - released + window, below the batch"
    ∷ eqb l.unreleased (distance l.head l.released + l.window)
    ∷ ltb l.unreleased (release_batch C)
    -- "window at most burst, burst at most 63"
    ∷ leb l.window l.burst
    ∷ leb l.burst 63
    ∷ []
    )

-- "Per registered lane"
unfoldable pub lane_test : ℕ → Lane → Bool
lane_test C l = both (cursors_test C l) (amounts_test C l)

-- ---- a slot

-- x is the first of a list
abbrev pub is_first : ℕ → List ℕ → Bool
is_first x [] = false
is_first x (y ∷ q) = eqb y x

-- "Only the front lane, at `fast_slot`, has a window, at most the budget"
unfoldable pub fast_test : ℕ → ℕ → List ℕ → ℕ → ℕ → Bool
fast_test x fast queue window budget = every (eqb x fast ∷ is_first x queue ∷ leb window budget ∷ [])

unfoldable pub flags_test : Lane → Bool
flags_test l = every (flag_test l.pending ∷ flag_test l.queued ∷ flag_test l.paused ∷ flag_test l.registered ∷ flag_test l.living ∷ [])

-- a slot with a registered lane; it stands `queued` times in the queue and `free` times in the free list
unfoldable pub registered_test : List ℕ → Lane → ℕ → ℕ → ℕ → Bool
registered_test t l x queued free =
    every (
    lane_test (capacity t) l
    -- "The queue names each queued lane once and no paused one."
    ∷ eqb l.queued queued
    ∷ implies (leb 1 queued) (eqb l.paused 0)
    -- "Free slots .. hold no lane"
    ∷ eqb free 0
    -- "A registered lane that is pending, unpaused and unqueued has its page bit set"
    ∷ implies (eqb l.paused 0) (implies (eqb l.pending 1) (implies (eqb queued 0) (eqb (page_bit t x) 1)))
    ∷ implies (ltb 0 l.window) (fast_test x (fast_slot t) (queue_of t) l.window (budget t))
    ∷ []
    )

-- a slot without
unfoldable pub unregistered_test : ℕ → ℕ → ℕ → Bool
unregistered_test generation queued free =
    every (
    eqb queued 0
    -- "Free slots .. had a last generation below 2^64 - 1"
    ∷ implies (leb 1 free) (not (eqb generation 18446744073709551615))
    ∷ []
    )

-- "flags and signals hold one of their two values", and what holds of a slot with a lane or without
unfoldable pub slot_test : List ℕ → Lane → ℕ → ℕ → ℕ → Bool
slot_test t l x queued free =
    every (
    flags_test l
    ∷ implies (eqb l.registered 1) (registered_test t l x queued free)
    ∷ implies (eqb l.registered 0) (unregistered_test l.key.generation queued free)
    ∷ []
    )

-- every issued slot
unfoldable pub slots_test : List ℕ → Bool
slots_test t = all_below (issued t) (λ x. slot_test t (lane_at t x) x (count x (queue_of t)) (count x (free_of t)))

-- "counts of lanes and living senders are true"
unfoldable pub counts_test : List ℕ → Bool
counts_test t =
    every (
    eqb (lane_count t) (registered_below t (issued t))
    ∷ eqb (living_count t) (living_below t (issued t))
    -- document 02, N6: "A store whose held count is untrue is not in order."
    ∷ eqb (held_count t) (walked_held t)
    ∷ []
    )

-- ---- marks: "A page or group exists once a slot of it has been issued."

abbrev pub pages_of : ℕ → ℕ
pages_of n = (n + 63) / 64

unfoldable pub page_test : List ℕ → ℕ → Bool
page_test t page =
    every (
    ltb (page_word t page) (2 ^ 64)
    -- "a page bit is of an issued slot"
    ∷ all_below 64 (λ b. implies (eqb (bit (page_word t page) b) 1) (ltb (64 * page + b) (issued t)))
    -- "a page is non-zero exactly if its group bit is set"
    ∷ eqb (group_bit t page) (non_zero (page_word t page))
    ∷ []
    )

-- a group's word; its bits are of pages that exist
unfoldable pub group_test : List ℕ → ℕ → Bool
group_test t group =
    both (ltb (group_word t group) (2 ^ 64))
    (all_below 64 (λ b. implies (eqb (bit (group_word t group) b) 1) (ltb (64 * (64 * group + b)) (issued t))))

unfoldable pub pages_test : List ℕ → Bool
pages_test t = all_below (pages_of (issued t)) (page_test t)

unfoldable pub groups_test : List ℕ → Bool
groups_test t = all_below (group_count (issued t)) (group_test t)

-- ---- all clauses

unfoldable pub in_order : List ℕ → List ℕ → Bool
in_order t r =
    every (
    header_test t r
    ∷ names_test (issued t) (queue_of t)
    ∷ names_test (issued t) (free_of t)
    ∷ slots_test t
    ∷ counts_test t
    ∷ pages_test t
    ∷ groups_test t
    ∷ []
    )
