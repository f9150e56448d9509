-- A turn at the front of the queue: empty lanes leave it, and the front lane gives one item.
-- Assumes nothing.
use Rattle.std.specs.Prelude.{Bool, true, false, not, List, [], ◌∷◌, ◌++◌, ℕ, zero, suc, ◌+◌, ◌-◌, leb, eqb}
use Rattle.model.specs.declared.LaneKey.{LaneKey}
use Rattle.model.specs.Lists.{if, either, non_empty}
use Rattle.model.specs.State.{State, key_of, release_batch}
use Rattle.model.specs.Changes.{with_queue, with_free, with_budget, put, popped, settled_empty, retired}
use Rattle.model.specs.Ready.{collect_ready_group, collect_ready}

-- "most recently freed first", so a retired lane's slot goes to the front of the free list.
-- "A slot retired at generation 2^64 - 1 is not freed."
unfoldable pub retire_lane : ℕ → State → State
retire_lane x s =
    with_free (if (eqb (s.slot_of x).generation 18446744073709551615) s.free (x ∷ s.free)) (put x (retired (s.slot_of x)) s)

unfoldable pub retire_lane_if : Bool → ℕ → State → State
retire_lane_if true x s = retire_lane x s
retire_lane_if false x s = s

-- Lane x is found empty: it settles and leaves the queue, which is then q. "lanes may settle or retire on the way":
-- it retires if its sender is dropped.
unfoldable pub settle_empty : ℕ → List ℕ → State → State
settle_empty x q s = retire_lane_if (not (s.slot_of x).living) x (with_queue q (put x (settled_empty (s.slot_of x)) s))

-- A budget of 0 becomes 64.
unfoldable pub refill : ℕ → ℕ
refill zero = 64
refill (suc n) = suc n

-- "but 64 where a non-empty queue met a budget of 0, before the poll loop or in it"
unfoldable pub before_next_turn : List ℕ → State → State
before_next_turn [] s = s
before_next_turn (y ∷ q) s = with_budget (refill s.budget) s

-- Lanes at the front of the queue that are empty leave it, until one has an item or the queue is empty.
unfoldable pub run_down_from : List ℕ → State → State
run_down_from [] s = s
run_down_from (y ∷ q) s = if (non_empty (s.slot_of y).ring) s (run_down_from q (before_next_turn q (settle_empty y q s)))

unfoldable pub run_down : State → State
run_down s = run_down_from s.queue s

-- "Credit goes back when the unreleased count reaches the release batch": the count of lane x after one more item.
unfoldable pub unreleased_after_one : State → ℕ → ℕ
unreleased_after_one s x =
    if (eqb ((s.slot_of x).unreleased + 1) (release_batch s.capacity)) 0 ((s.slot_of x).unreleased + 1)

-- The front lane y gives an item and keeps vs; the rest of the queue is q. If `back`, it goes behind q and its burst starts anew.
-- "The port sets the budget to 64 just before that subtraction, when an item is in fact taken"
unfoldable pub give_item : State → ℕ → List ℕ → List ℕ → Bool → State
give_item s y q vs back =
    with_budget (refill s.budget - 1)
    (with_queue (if back (q ++ (y ∷ [])) (y ∷ q))
    (put y (popped vs (unreleased_after_one s y) (if back 0 ((s.slot_of y).burst + 1)) (s.slot_of y)) s))

-- What a take hands out, an item with its lane's key, and the state after it.
abbrev pub Took : Type 0
Took = List (LaneKey × ℕ) × State

-- "A lane that reaches a burst of 64 goes to the back."
-- Fair: "one item of the front lane, which goes to the back".
unfoldable pub give_oldest : State → Bool → ℕ → List ℕ → List ℕ → Took
give_oldest s fairly y q [] = ([], s)
give_oldest s fairly y q (v ∷ vs) = ((key_of s y, v) ∷ [], give_item s y q vs (either fairly (leb 63 (s.slot_of y).burst)))

unfoldable pub give_front : Bool → State → List ℕ → Took
give_front fairly s [] = ([], s)
give_front fairly s (y ∷ q) = give_oldest s fairly y q (s.slot_of y).ring

-- "budget 0 and queue non-empty, collect one group and set the budget to 64"
unfoldable pub collect_if_due : ℕ → List ℕ → State → State
collect_if_due zero (y ∷ q) s = with_budget 64 (collect_ready_group s)
collect_if_due zero [] s = s
collect_if_due (suc n) q s = s

-- "then the poll loop, which goes on until it has an item or nothing is queued and nothing is ready"
unfoldable pub collect_if_none_queued : List ℕ → State → State
collect_if_none_queued [] s = run_down (collect_ready s)
collect_if_none_queued (y ∷ q) s = s

unfoldable pub polled : State → State
polled s = let t = run_down (collect_if_due s.budget s.queue s) in collect_if_none_queued t.queue t

-- One item, as plain receives and batches take it.
-- Reading: the fast window and the front lane's window take the same item, and so are not rules of their own.
unfoldable pub take_one : State → Took
take_one s = let t = polled s in give_front false t t.queue

-- "Fair: collect all groups if any is ready, budget 64, one item of the front lane, which goes to the back."
unfoldable pub take_fair : State → Took
take_fair s = let t = run_down (with_budget 64 (collect_ready s)) in give_front true t t.queue
