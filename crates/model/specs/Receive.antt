-- The receives: plain, fair, targeted, batch, and the batch that stops in front of an item.
-- Assumes nothing.
use Rattle.std.specs.Prelude.{Bool, true, false, not, List, [], ◌∷◌, ◌++◌, map, ℕ, zero, suc, length, take, drop, leb, ltb}
use Rattle.model.specs.declared.LaneKey.{LaneKey}
use Rattle.model.specs.declared.LaneId.{LaneId}
use Rattle.model.specs.declared.ReceiveCall.{ReceiveCall}
use Rattle.model.specs.declared.ReceiveCall.TheVariants.{TryRecv, TryRecvFair, TryRecvFrom, TryRecvBatchInto, TryRecvBatchIntoWhile}
use Rattle.model.specs.declared.Refusal.TheVariants.{ReceiverClosed, OutputShort, NoSuchLane}
use Rattle.model.specs.declared.Answer.TheVariants.{Item, Items, Stopped, Empty, Disconnected}
use Rattle.model.specs.Lists.{if, both, non_empty, without, from}
use Rattle.model.specs.State.{State, may_queue, registered_lanes, living_senders, key_of, id_of, has_lane_id}
use Rattle.model.specs.Changes.{with_slots, with_queue, with_budget, put, signalled, popped, credited}
use Rattle.model.specs.Turn.{retire_lane_if, settle_empty, refill, unreleased_after_one, Took, polled, take_one, take_fair}
use Rattle.model.specs.Outcome.{Outcome, says, unless}

-- "after empty paused lanes are retired". Reading: by ascending slot.
unfoldable pub retire_empty_paused_lanes : List ℕ → State → State
retire_empty_paused_lanes [] s = s
retire_empty_paused_lanes (x ∷ xs) s =
    retire_empty_paused_lanes xs
    (retire_lane_if (both (s.slot_of x).registered (both (s.slot_of x).paused (not (non_empty (s.slot_of x).ring)))) x s)

-- "Disconnected: no living sender and no registered lane, after empty paused lanes are retired.
-- With no living sender but a paused lane holding items: Empty."
unfoldable pub empty_or_drained : State → Outcome
empty_or_drained s = says (if (leb 1 (registered_lanes s)) Empty Disconnected) s

unfoldable pub nothing_taken : State → Outcome
nothing_taken s = if (leb 1 (living_senders s)) (says Empty s) (empty_or_drained (retire_empty_paused_lanes (from 0 s.issued) s))

-- "Single receives answer item and lane id (channel id, key)." The id carries the opening number too.
unfoldable pub answer_one : List (LaneKey × ℕ) → State → Outcome
answer_one [] s = nothing_taken s
answer_one (g ∷ gs) s = (g ∷ [], (Item g.1 (id_of s g.0), s))

-- "Plain: first the open fast window at `fast_slot`; else [..]", as `take_one` says.
unfoldable pub try_recv : State → Outcome
try_recv s = unless ((not s.is_open, ReceiverClosed) ∷ []) s (let t = take_one s in answer_one t.0 t.1)

-- "Fair: collect all groups if any is ready, budget 64, one item of the front lane, which goes to the back."
unfoldable pub try_recv_fair : State → Outcome
try_recv_fair s = unless ((not s.is_open, ReceiverClosed) ∷ []) s (let t = take_fair s in answer_one t.0 t.1)

-- "Whatever queues a lane, resume too, puts it at the back." Its signal is marked.
unfoldable pub queue_lane_if : Bool → ℕ → State → State
queue_lane_if true x s = with_queue (s.queue ++ (x ∷ [])) (put x (signalled (s.slot_of x)) s)
queue_lane_if false x s = s

-- "Targeted: counts in neither burst nor budget, works on a paused lane, queues an unpaused one."
-- A lane found empty settles; with its sender dropped it retires and the answer is Disconnected.
unfoldable pub take_from : List ℕ → ℕ → State → Outcome
take_from [] x s = says (if (s.slot_of x).living Empty Disconnected) (settle_empty x (without x s.queue) s)
take_from (v ∷ vs) x s =
    let m = popped vs (unreleased_after_one s x) (s.slot_of x).burst (s.slot_of x) in
    ((key_of s x, v) ∷ [], (Item v (id_of s (key_of s x)), queue_lane_if (may_queue s x) x (put x m s)))

unfoldable pub try_recv_from : State → LaneId → Outcome
try_recv_from s i =
    unless ((not s.is_open, ReceiverClosed) ∷ (not (has_lane_id s i), NoSuchLane) ∷ []) s
    (take_from (s.slot_of i.key.slot).ring i.key.slot s)

-- An item and what follows it; or nothing, and then nothing follows.
unfoldable pub and_more : List (LaneKey × ℕ) → State → Took → Took
and_more [] s r = ([], s)
and_more (g ∷ gs) s r = (g ∷ r.0, r.1)

-- "Batch: until the limit, or until nothing is queued and nothing is ready"
-- Reading: item by item; moving several of a lane at once comes to the same.
unfoldable pub take_up_to : ℕ → State → Took
take_up_to zero s = ([], s)
take_up_to (suc m) s = let t = take_one s in let r = take_up_to m t.1 in and_more t.0 t.1 r

-- "then every lane gives back its credit"
unfoldable pub release_all : State → State
release_all s = with_slots (λ y. credited (s.slot_of y)) s

-- "Limit 0 answers 0 items, even with no senders, and still gives back."
-- The answer is the number of items; the items are those handed out, in order.
unfoldable pub answer_items : ℕ → List (LaneKey × ℕ) → State → Outcome
answer_items zero l s = (l, (Items (length l), s))
answer_items (suc m) [] s = nothing_taken s
answer_items (suc m) (g ∷ l) s = (g ∷ l, (Items (length (g ∷ l)), s))

unfoldable pub try_recv_batch_into : State → ℕ → ℕ → Outcome
try_recv_batch_into s limit room =
    unless ((not s.is_open, ReceiverClosed) ∷ (ltb room limit, OutputShort) ∷ []) s
    (let t = take_up_to limit s in answer_items limit t.0 (release_all t.1))

-- Document 02, N2: "an item is admitted if it is at most a bound given with the call": how many items come before the first that is not.
unfoldable pub admitted : ℕ → List (LaneKey × ℕ) → ℕ
admitted bound [] = 0
admitted bound (g ∷ l) = if (leb g.1 bound) (suc (admitted bound l)) 0

-- The stop in front of an item, where the poll is done. Reading: a budget of 0 is then set to 64, as before an item that is taken.
unfoldable pub halted : State → State
halted s = with_budget (refill s.budget) s

-- "The batch is the plain one, but below its limit it stops in front of the first item not admitted, after any collection due there, in the lane
-- whose turn it is, which stays in front with its burst". Whether it stopped, what it took, and the state then.
unfoldable pub take_while : ℕ → ℕ → State → Bool × Took
take_while bound limit s =
    let l = (take_up_to limit s).0 in
    let n = admitted bound l in
    if (ltb n (length l)) (true, (take n l, halted (polled (take_up_to n s).1))) (false, take_up_to limit s)

-- "it answers the count and whether it stopped so. A stop at count 0 is never Empty."
unfoldable pub answer_while : ℕ → Bool → List (LaneKey × ℕ) → State → Outcome
answer_while limit true l s = (l, (Stopped (length l), s))
answer_while limit false l s = answer_items limit l s

-- "Credit and refusals are as in the plain batch."
unfoldable pub try_recv_batch_into_while : State → ℕ → ℕ → ℕ → Outcome
try_recv_batch_into_while s limit bound room =
    unless ((not s.is_open, ReceiverClosed) ∷ (ltb room limit, OutputShort) ∷ []) s
    (let t = take_while bound limit s in answer_while limit t.0 t.1.0 (release_all t.1.1))

-- "A batch hands out its output in order": the output begins with the items handed out, and the words after them are as they were.
unfoldable pub written_to : List (LaneKey × ℕ) → List ℕ → List ℕ
written_to l out = map (λ g. g.1) l ++ drop (length l) out

unfoldable pub receive_outcome : State → ReceiveCall → Outcome
receive_outcome s TryRecv = try_recv s
receive_outcome s TryRecvFair = try_recv_fair s
receive_outcome s (TryRecvFrom i) = try_recv_from s i
receive_outcome s (TryRecvBatchInto limit room) = try_recv_batch_into s limit room
receive_outcome s (TryRecvBatchIntoWhile limit bound room) = try_recv_batch_into_while s limit bound room

-- The lent output as a receive leaves it. A batch that hands out nothing, a refused one too, leaves it as it was; the other receives are lent none.
unfoldable pub output_after : State → ReceiveCall → List ℕ → List ℕ
output_after s TryRecv out = out
output_after s TryRecvFair out = out
output_after s (TryRecvFrom i) out = out
output_after s (TryRecvBatchInto limit room) out = written_to (try_recv_batch_into s limit room).0 out
output_after s (TryRecvBatchIntoWhile limit bound room) out = written_to (try_recv_batch_into_while s limit bound room).0 out
