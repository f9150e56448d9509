-- The test at work: words that are in order, and changes of them that break a clause, most of them only the one named.
-- Assumes nothing.
use mathlib.Core.Path.{◌≡◌, refl}
use mathlib.Core.Bool.{Bool, true, false, not}
use mathlib.Core.List.{List, [], ◌∷◌, ◌++◌}
use Prim.Native.Nat.{ℕ}
use lib.ListN.{replicate, get_or, set, take}
use Rattle.model.specs.Lists.{both, either, count, same, keep, from}
use Rattle.model.specs.State.{release_batch}
use Rattle.lane.specs.Table.{packed, cell_at, words, of_words, lane_at}
use Rattle.queues.specs.Queue.{queue_of}
use Rattle.queues.specs.Registry.{free_of}
use Rattle.store.specs.Held.{held_in, held_from}
use Rattle.order_slot.specs.Clauses.{registered_below, living_below}
use Rattle.order.specs.InOrder.{all_below, some_below, capacity_test, lengths_test, places_test, limits_test, header_test, names_test, cursors_test, amounts_test, lane_test, fast_test, flags_test, registered_test, unregistered_test, slot_test, slots_test, counts_test, page_test, group_test, pages_test, groups_test, in_order}

-- slots 0 to 2 of 3 are issued, C is 2; the queue has slot 0, the free list slot 2; two lanes, one living sender, three items
abbrev pub header : List ℕ
header = 3 ∷ 0 ∷ 1 ∷ 1 ∷ 3 ∷ 64 ∷ 0 ∷ 1 ∷ 2 ∷ 7 ∷ 0 ∷ 0 ∷ 0 ∷ 2 ∷ 1 ∷ 0 ∷ 3 ∷ []

-- the front lane, with a window of 1 and one item more; page 0 has the bit of slot 1, group 0 that of page 0
abbrev pub front : List ℕ
front = 0 ∷ 2 ∷ 0 ∷ 0 ∷ 2 ∷ packed 1 1 ∷ packed 1 1 ∷ 1 ∷ 1 ∷ 0 ∷ 1 ∷ 1 ∷ 0 ∷ 2 ∷ 2 ∷ 1 ∷ []

-- a pending lane that is not queued
abbrev pub second : List ℕ
second = 0 ∷ 1 ∷ 0 ∷ 0 ∷ 0 ∷ 0 ∷ 0 ∷ 1 ∷ 0 ∷ 0 ∷ 1 ∷ 0 ∷ replicate 4 0

-- no lane
abbrev pub third : List ℕ
third = 5 ∷ replicate 15 0

abbrev pub table : List ℕ
table = header ++ replicate 495 0 ++ front ++ second ++ third

abbrev pub rings : List ℕ
rings = replicate 12 0

-- one word of the table changed
abbrev pub Change : Type 0
Change = ℕ × ℕ

-- the table with some words changed
unfoldable pub changed : List ℕ → List Change → List ℕ
changed t [] = t
changed t (c ∷ cs) = changed (set t c.0 c.1) cs

-- none of the changed tables is in order
unfoldable pub none_in_order : List (List Change) → Bool
none_in_order [] = true
none_in_order (cs ∷ rest) = both (not (in_order (changed table cs) rings)) (none_in_order rest)

-- all of them are
unfoldable pub all_in_order : List (List Change) → Bool
all_in_order [] = true
all_in_order (cs ∷ rest) = both (in_order (changed table cs) rings) (all_in_order rest)

abbrev pub header_changes : List (List Change)
header_changes =
    -- issued, the queue's front, S, the budget, the budget below the window
    ((0, 4) ∷ []) ∷ ((1, 3) ∷ []) ∷ ((4, 0) ∷ []) ∷ ((5, 65) ∷ []) ∷ ((5, 0) ∷ [])
    -- the group cursor, alive, a capacity that is no power of two, one too large for the rings, the first cursor
    ∷ ((6, 2) ∷ []) ∷ ((7, 2) ∷ []) ∷ ((8, 3) ∷ []) ∷ ((8, 8) ∷ []) ∷ ((10, 18446744073709551616) ∷ [])
    -- `fast_slot` that is no slot, that is not the front lane's; the two counts
    ∷ ((12, 3) ∷ []) ∷ ((12, 1) ∷ []) ∷ ((13, 1) ∷ []) ∷ ((14, 2) ∷ []) ∷ []

abbrev pub lane_changes : List (List Change)
lane_changes =
    -- the tail no u64; with a true held count, short of the known tail, too far from the released head
    ((cell_at 1 0, 18446744073709551618) ∷ []) ∷ ((cell_at 1 0, 1) ∷ (16, 2) ∷ []) ∷ ((cell_at 1 0, 3) ∷ (16, 4) ∷ [])
    -- the released head, the head, the known tail no u64
    ∷ ((cell_at 2 1, 18446744073709551616) ∷ []) ∷ ((cell_at 3 1, 18446744073709551616) ∷ []) ∷ ((cell_at 4 1, 18446744073709551616) ∷ [])
    -- cached, unreleased, the burst below the window, the burst above 63
    ∷ ((cell_at 5 0, packed 1 2) ∷ []) ∷ ((cell_at 5 0, packed 0 1) ∷ []) ∷ ((cell_at 6 0, packed 1 0) ∷ []) ∷ ((cell_at 6 0, packed 1 64) ∷ [])
    -- a half whose upper bits are set, each of the four
    ∷ ((cell_at 6 0, packed 1 65537) ∷ []) ∷ ((cell_at 5 0, packed 1 65537) ∷ []) ∷ ((cell_at 5 0, packed 65537 1) ∷ []) ∷ ((cell_at 6 0, packed 4294967295 1) ∷ [])
    -- unreleased no longer below the batch
    ∷ ((cell_at 1 1, 2) ∷ (cell_at 3 1, 2) ∷ (cell_at 4 1, 2) ∷ (cell_at 5 1, packed 2 0) ∷ (16, 2) ∷ [])
    -- pending, queued, paused, registered, living no flags
    ∷ ((cell_at 7 0, 2) ∷ []) ∷ ((cell_at 8 2, 2) ∷ []) ∷ ((cell_at 9 1, 2) ∷ []) ∷ ((cell_at 10 2, 2) ∷ []) ∷ ((cell_at 11 1, 2) ∷ [])
    -- queued and not flagged, queued and paused, pending and not marked
    ∷ ((cell_at 8 0, 0) ∷ []) ∷ ((cell_at 9 0, 1) ∷ []) ∷ ((cell_at 14 0, 4) ∷ [])
    -- a window, at `fast_slot`, of a lane that is not the front one
    ∷ (
    (cell_at 5 0, packed 0 2) ∷ (cell_at 6 0, packed 0 1) ∷ (cell_at 4 1, 1) ∷ (cell_at 5 1, packed 1 0) ∷ (cell_at 6 1, packed 1 1) ∷ (12, 1) ∷ []
    )
    ∷ []

abbrev pub list_changes : List (List Change)
list_changes =
    -- the queue names a slot without a lane, one slot twice, one not issued
    ((2, 2) ∷ (cell_at 12 1, 2) ∷ []) ∷ ((2, 2) ∷ (cell_at 12 1, 0) ∷ []) ∷ ((2, 2) ∷ (cell_at 12 1, 3) ∷ [])
    -- the free list names a slot with a lane, one slot twice, one not issued, one of the last generation
    ∷ ((cell_at 13 0, 1) ∷ []) ∷ ((3, 2) ∷ (cell_at 13 1, 2) ∷ []) ∷ ((cell_at 13 0, 3) ∷ []) ∷ ((cell_at 0 2, 18446744073709551615) ∷ [])
    -- a page's and a group's word no u64, a page bit of a slot not issued, a group bit missing, a group bit of a page that does not exist
    ∷ ((cell_at 14 0, 18446744073709551618) ∷ []) ∷ ((cell_at 15 0, 18446744073709551617) ∷ [])
    ∷ ((cell_at 14 0, 10) ∷ []) ∷ ((cell_at 15 0, 0) ∷ []) ∷ ((cell_at 15 0, 3) ∷ [])
    ∷ []

-- words 5 and 6 by numerals: unreleased 2 and cached 3, window 4 and burst 5
abbrev pub halves : ℕ → ℕ
halves column = get_or (0 ∷ 0 ∷ 0 ∷ 0 ∷ 0 ∷ 12884901890 ∷ 21474836484 ∷ []) column 0

pub halves_read :
    let l = of_words 0 halves in
    (◌≡◌ {A = List ℕ} (l.unreleased ∷ l.cached ∷ l.window ∷ l.burst ∷ []) (2 ∷ 3 ∷ 4 ∷ 5 ∷ []))
    × (get_or (words l) 5 0 ≡ 12884901890) × (get_or (words l) 6 0 ≡ 21474836484)
halves_read = (refl, refl, refl)

-- counts in order: the front lane's burst above its window; anything in the counts of a slot without a lane
abbrev pub counts_true : List (List Change)
counts_true = ((cell_at 6 0, 8589934593) ∷ []) ∷ ((cell_at 5 2, 18446744073709551615) ∷ (cell_at 6 2, 18446744073709551615) ∷ []) ∷ []

-- the held count untrue
abbrev pub held_changes : List (List Change)
held_changes =
    -- one less, one more, 2^64 more
    ((16, 2) ∷ []) ∷ ((16, 4) ∷ []) ∷ ((16, 18446744073709551619) ∷ [])
    -- left as it was by a send, by a receive, by a lane that goes
    ∷ ((cell_at 1 1, 2) ∷ []) ∷ ((cell_at 3 1, 1) ∷ (cell_at 4 1, 1) ∷ (cell_at 5 1, packed 1 0) ∷ []) ∷ ((cell_at 10 1, 0) ∷ (13, 1) ∷ [])
    -- without a paused lane, and of a closed receiver
    ∷ ((cell_at 9 1, 1) ∷ (16, 2) ∷ []) ∷ ((7, 0) ∷ (16, 0) ∷ [])
    ∷ []

-- the held count true
abbrev pub held_true : List (List Change)
held_true =
    -- the same send, receive and lane that goes
    ((cell_at 1 1, 2) ∷ (16, 4) ∷ []) ∷ ((cell_at 3 1, 1) ∷ (cell_at 4 1, 1) ∷ (cell_at 5 1, packed 1 0) ∷ (16, 2) ∷ []) ∷ ((cell_at 10 1, 0) ∷ (13, 1) ∷ (16, 2) ∷ [])
    -- with a paused lane, and of a closed receiver
    ∷ ((cell_at 9 1, 1) ∷ []) ∷ ((7, 0) ∷ [])
    -- an item of a lane that is idle, as an unsignalled send leaves it
    ∷ ((cell_at 7 1, 0) ∷ [])
    -- cursors of a slot without a lane, of one whose sender lives, of one that is not issued; a ring with an item at 2^64 - 1
    ∷ ((cell_at 1 2, 5) ∷ []) ∷ ((cell_at 10 1, 0) ∷ (cell_at 11 1, 1) ∷ (13, 1) ∷ (14, 2) ∷ (16, 2) ∷ [])
    ∷ ((0, 2) ∷ (3, 0) ∷ (cell_at 10 2, 1) ∷ (cell_at 1 2, 1) ∷ [])
    ∷ ((cell_at 1 1, 0) ∷ (cell_at 2 1, 18446744073709551615) ∷ (cell_at 3 1, 18446744073709551615) ∷ (cell_at 4 1, 18446744073709551615) ∷ [])
    ∷ []

-- one slot, C 1, nothing issued, and a held count
abbrev pub empty : ℕ → List ℕ
empty held = replicate 4 0 ++ (1 ∷ 64 ∷ 0 ∷ 1 ∷ 1 ∷ 7 ∷ replicate 6 0) ++ held ∷ replicate 511 0

-- stores that are too short
abbrev pub short_in_order : Bool
short_in_order = either (in_order (take 559 table) rings) (either (in_order table (replicate 5 0)) (in_order [] []))

pub in_order_examples : (in_order table rings ≡ true) × (short_in_order ≡ false) × (none_in_order header_changes ≡ true) × (none_in_order lane_changes ≡ true)
    × (none_in_order list_changes ≡ true) × (none_in_order held_changes ≡ true) × (all_in_order held_true ≡ true) × (all_in_order counts_true ≡ true)
    × (in_order (empty 0) (0 ∷ []) ≡ true) × (in_order (empty 1) (0 ∷ []) ≡ false)
unfolding in_order header_test lengths_test places_test limits_test capacity_test names_test slots_test slot_test flags_test registered_test unregistered_test lane_test cursors_test amounts_test fast_test counts_test pages_test page_test groups_test group_test all_below some_below registered_below living_below held_from held_in queue_of free_of lane_at count same keep from release_batch none_in_order all_in_order changed
in_order_examples = (refl, refl, refl, refl, refl, refl, refl, refl, refl, refl)
