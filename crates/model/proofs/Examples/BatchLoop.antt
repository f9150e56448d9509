-- The rounds of the batch's loop, computed: how long a chunk is, what it leaves, a loop with a chunk of no items, and loops with a bound that stop.
-- Assumes nothing.
use Rattle.std.specs.Prelude.{refl, Bool, true, false, List, [], ◌∷◌, ℕ, leb}
use Rattle.std.proofs.Common.{arith}
use Rattle.model.specs.declared.LaneKey.{LaneKey}
use Rattle.model.specs.State.{State}
use Rattle.model.specs.Receive.{take_up_to, take_while}
use Rattle.model.specs.PollLoop.{refreshed, refresh_active}
use Rattle.model.specs.BatchLoop.{chunk_length, chunk_items, after_chunk, Rounds, limit_reached, chunk_moved, RoundsWhile, while_limit_reached, while_chunk_moved, item_rejected}
use Rattle.model.specs.Examples.Pairs.{Reads}
use Rattle.model.proofs.Examples.Calls.{compute}

-- C is 256, so that the release batch is 128. Lanes 0 and 1 are registered, each with the unreleased count u and the burst b, and hold 5, 6 and 7.
lanes : ℕ → ℕ → ℕ → List ℕ → State
lanes budget u b q = record {
  slot_of = λ x. record { registered = leb x 1; living = true; paused = false; pending = true; marked = true; generation = 0; ring = 5 ∷ 6 ∷ 7 ∷ []; unreleased = u; burst = b };
  queue = q;
  free = [];
  issued = 2;
  budget = budget;
  cursor = 0;
  is_open = true;
  capacity = 256;
  slots = 2;
  channel = record { id = 7; opening = 0 };
  first_generation = 0;
}

compute_loop : Unit {0}
unfolding compute refreshed chunk_length chunk_items after_chunk lanes
compute_loop = tt

-- what is left of the limit, the cached count, the budget, the unreleased count and the burst: the least of them decides
length_of : (ℕ × ℕ) × (ℕ × ℕ × ℕ) → ℕ
length_of c = chunk_length c.0.0 c.0.1 (lanes c.1.0 c.1.1 c.1.2 (0 ∷ [])) 0

chunk_length_read :
    Reads length_of
    ((((2, 3), (64, 0, 0)), 2)
    ∷ (((9, 3), (64, 0, 0)), 3)
    ∷ (((9, 3), (1, 0, 0)), 1)
    ∷ (((9, 3), (0, 0, 0)), 0)
    ∷ (((9, 3), (64, 126, 0)), 2)
    ∷ (((9, 3), (64, 0, 63)), 1)
    ∷ [])
unfolding compute_loop length_of
chunk_length_read = refl

-- the front lane 0 and the lane behind it, after a chunk of n: the budget, the queue, and lane 0's items, unreleased count and burst
moved_of : ℕ × (ℕ × ℕ × ℕ) → ℕ × List ℕ × List ℕ × ℕ × ℕ
moved_of c =
    let s = after_chunk (lanes c.1.0 c.1.1 c.1.2 (0 ∷ 1 ∷ [])) 0 (1 ∷ []) c.0 in
    let l = s.slot_of 0 in
    (s.budget, s.queue, l.ring, l.unreleased, l.burst)

chunk_moved_read :
    Reads moved_of
    (((2, (64, 10, 20)), (62, 0 ∷ 1 ∷ [], 7 ∷ [], 12, 22))
    -- "A lane that reaches a burst of 64 goes to the back."
    ∷ ((3, (64, 10, 61)), (61, 1 ∷ 0 ∷ [], [], 13, 0))
    -- "Credit goes back when the unreleased count reaches the release batch"
    ∷ ((1, (64, 127, 20)), (63, 0 ∷ 1 ∷ [], 6 ∷ 7 ∷ [], 0, 21))
    -- both, and the budget too, on the same item
    ∷ ((2, (2, 126, 62)), (0, 1 ∷ 0 ∷ [], 7 ∷ [], 0, 0))
    -- a chunk of none changes nothing
    ∷ ((0, (0, 10, 20)), (0, 0 ∷ 1 ∷ [], 5 ∷ 6 ∷ 7 ∷ [], 10, 20))
    ∷ [])
unfolding compute_loop moved_of
chunk_moved_read = refl

-- ---- a batch of 2 where nothing is queued and the budget is 0

lane : ℕ → LaneKey
lane x = record { slot = x; generation = 0 }

-- lanes 0 and 1 are collected, and the budget is still 0;
begins : State
begins = lanes 0 0 0 []

collected : State
collected = refresh_active begins

-- a chunk of none;
none : State
none = after_chunk collected 0 (1 ∷ []) 0

-- the next round sets the budget,
refilled : State
refilled = refresh_active none

-- and the two items are moved.
ends : State
ends = after_chunk refilled 0 (1 ∷ []) 2

compute_states : Unit {0}
unfolding compute_loop lane begins collected none refilled ends
compute_states = tt

rounds_with_none : Rounds 2 begins ((lane 0, 5) ∷ (lane 0, 6) ∷ []) ends
unfolding compute_states
rounds_with_none =
    chunk_moved 2 3 0 begins collected ends ((lane 0, 5) ∷ (lane 0, 6) ∷ []) 0 (1 ∷ []) (omega arith) refl refl (omega arith) (omega arith) refl
    (chunk_moved 2 3 2 none refilled ends [] 0 (1 ∷ []) (omega arith) refl refl (omega arith) (omega arith) refl (limit_reached 0 ends refl))

-- the same where lane 0 has only one item cached each time: a chunk more, and the same end
one : State
one = after_chunk refilled 0 (1 ∷ []) 1

rounds_with_one_cached : Rounds 2 begins ((lane 0, 5) ∷ (lane 0, 6) ∷ []) (after_chunk one 0 (1 ∷ []) 1)
unfolding compute_states one
rounds_with_one_cached =
    chunk_moved 2 1 0 begins collected _ ((lane 0, 5) ∷ (lane 0, 6) ∷ []) 0 (1 ∷ []) (omega arith) refl refl (omega arith) (omega arith) refl
    (chunk_moved 2 1 1 none refilled _ ((lane 0, 6) ∷ []) 0 (1 ∷ []) (omega arith) refl refl (omega arith) (omega arith) refl
    (chunk_moved 1 1 1 one one _ [] 0 (1 ∷ []) (omega arith) refl refl (omega arith) (omega arith) refl (limit_reached 0 _ refl)))

budgets_read :
    Reads (λ (s : State). s.budget)
    ((begins, 0)
    ∷ (collected, 0)
    ∷ (none, 0)
    ∷ (refilled, 64)
    ∷ (ends, 62)
    ∷ (one, 63)
    ∷ ((take_up_to 2 begins).1, 62)
    ∷ [])
unfolding compute_states one
budgets_read = refl

-- ---- the same with a bound

-- 5 is above it: the chunk of none is moved whole, so the next round sets the budget, and moves none of its two. The budget stays 64.
stopped_at_none : State
stopped_at_none = after_chunk refilled 0 (1 ∷ []) 0

rounds_stop_at_none : RoundsWhile 4 2 begins true [] stopped_at_none
unfolding compute_states stopped_at_none
rounds_stop_at_none =
    while_chunk_moved 2 3 0 begins collected _ true [] 0 (1 ∷ []) (omega arith) refl refl (omega arith) (omega arith) refl refl
    (item_rejected 2 3 2 0 none refilled 0 (1 ∷ []) (omega arith) refl refl (omega arith) (omega arith) refl refl (omega arith))

-- 6 is above it: one of the chunk's two is moved.
rounds_stop_in_chunk : RoundsWhile 5 2 begins true ((lane 0, 5) ∷ []) one
unfolding compute_states one
rounds_stop_in_chunk =
    while_chunk_moved 2 3 0 begins collected _ true ((lane 0, 5) ∷ []) 0 (1 ∷ []) (omega arith) refl refl (omega arith) (omega arith) refl refl
    (item_rejected 2 3 2 1 none refilled 0 (1 ∷ []) (omega arith) refl refl (omega arith) (omega arith) refl refl (omega arith))

-- The same with one item cached each time: a chunk that is moved whole, one of which none is moved, and the same end.
rounds_stop_between_chunks : RoundsWhile 5 2 begins true ((lane 0, 5) ∷ []) (after_chunk one 0 (1 ∷ []) 0)
unfolding compute_states one
rounds_stop_between_chunks =
    while_chunk_moved 2 1 0 begins collected _ true ((lane 0, 5) ∷ []) 0 (1 ∷ []) (omega arith) refl refl (omega arith) (omega arith) refl refl
    (while_chunk_moved 2 1 1 none refilled _ true [] 0 (1 ∷ []) (omega arith) refl refl (omega arith) (omega arith) refl refl
    (item_rejected 1 1 1 0 one one 0 (1 ∷ []) (omega arith) refl refl (omega arith) (omega arith) refl refl (omega arith)))

-- 7 is above it, but the limit is reached in front of it.
rounds_end_at_limit : RoundsWhile 6 2 begins false ((lane 0, 5) ∷ (lane 0, 6) ∷ []) ends
unfolding compute_states
rounds_end_at_limit =
    while_chunk_moved 2 3 0 begins collected _ false ((lane 0, 5) ∷ (lane 0, 6) ∷ []) 0 (1 ∷ []) (omega arith) refl refl (omega arith) (omega arith) refl refl
    (while_chunk_moved 2 3 2 none refilled _ false [] 0 (1 ∷ []) (omega arith) refl refl (omega arith) (omega arith) refl refl (while_limit_reached 0 ends refl))

-- the budget, the queue, and lane 0's burst and items
leaves : State → ℕ × List ℕ × ℕ × List ℕ
leaves s = (s.budget, s.queue, (s.slot_of 0).burst, (s.slot_of 0).ring)

stops_read :
    Reads leaves
    ((stopped_at_none, (64, 0 ∷ 1 ∷ [], 0, 5 ∷ 6 ∷ 7 ∷ []))
    ∷ (one, (63, 0 ∷ 1 ∷ [], 1, 6 ∷ 7 ∷ []))
    ∷ (after_chunk one 0 (1 ∷ []) 0, (63, 0 ∷ 1 ∷ [], 1, 6 ∷ 7 ∷ []))
    ∷ (ends, (62, 0 ∷ 1 ∷ [], 2, 7 ∷ []))
    ∷ [])
unfolding compute_states one stopped_at_none leaves
stops_read = refl

-- the rules' batch by its bound and limit: whether it stopped, its items, and what it leaves
while_of : ℕ × ℕ → Bool × List (LaneKey × ℕ) × (ℕ × List ℕ × ℕ × List ℕ)
while_of c = let t = take_while c.0 c.1 begins in (t.0, t.1.0, leaves t.1.1)

while_read :
    Reads while_of
    (((4, 2), (true, [], (64, 0 ∷ 1 ∷ [], 0, 5 ∷ 6 ∷ 7 ∷ [])))
    ∷ ((5, 2), (true, (lane 0, 5) ∷ [], (63, 0 ∷ 1 ∷ [], 1, 6 ∷ 7 ∷ [])))
    ∷ ((6, 2), (false, (lane 0, 5) ∷ (lane 0, 6) ∷ [], (62, 0 ∷ 1 ∷ [], 2, 7 ∷ [])))
    ∷ [])
unfolding compute_states leaves while_of
while_read = refl
