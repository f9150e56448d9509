-- The batch, as words: a loop over one step, which looks for a lane with items and takes a chunk of it.
-- Assumes nothing.
use Rattle.std.specs.Prelude.{◌≡◌, true, cond, List, [], ◌++◌, map, ℕ, zero, suc, ◌-◌, min, eqb, ltb, length, Option, Some, None, Result, Ok, Err}
use Rattle.model.specs.declared.LaneKey.{LaneKey}
use Rattle.model.specs.declared.Answer.{Answer}
use Rattle.model.specs.declared.Answer.TheVariants.{Items}
use Rattle.model.specs.declared.Refusal.TheVariants.{OutputShort}
use Rattle.model.specs.Receive as rules
use Rattle.lane.specs.declared.lane.Lane.{Lane}
use Rattle.yring.specs.Lists.{written}
use Rattle.yring.specs.Ring.{new_ring, items}
use Rattle.lane.specs.Lane.{refill, end_full_burst, chunk_limit, move_chunk}
use Rattle.lane.specs.Table.{put_lane}
use Rattle.queues.specs.Header.{set_budget, queue_count, budget, capacity, held_less}
use Rattle.ready.specs.Ready.{collect_ready}
use Rattle.store.specs.Refusal.{Verdict, receiver_verdict, and_then}
use Rattle.store.specs.Words.{Words, unless_refused, with_rings}
use Rattle.turns.specs.Turn.{Turning, front_lane, settle_empty_front, meet_budget, rotate_if}
use Rattle.turns.specs.Drained.{Idle, nothing_taken}
use Rattle.turns.specs.Due.{collect_if_due}
use Rattle.all_lanes.specs.AllLanes.{release_all}
use Rattle.lane.specs.declared.lane.EmptyLane.{EmptyLane}
use Rattle.std.specs.declared.ops.ControlFlow.{ControlFlow}
use Rattle.std.specs.declared.ops.ControlFlow.TheVariants.{Continue, Break}

-- ---- the lane whose turn it is

-- a front lane with items is handed on and nothing is stored; one found empty leaves the queue
unfoldable pub look_by : List ℕ → Result Lane EmptyLane → ControlFlow (Option Lane) (Unit {0}) × List ℕ
look_by t (Ok l) = (Break (Some l), t)
look_by t (Err found) = (Continue tt, meet_budget (settle_empty_front t found))

unfoldable pub look_front : List ℕ → ControlFlow (Option Lane) (Unit {0}) × List ℕ
look_front t = cond (eqb (queue_count t) 0) (Break None, t) (look_by t (refill (front_lane t)))

-- what follows a look at a lane that left
unfoldable pub after_look : ControlFlow (Option Lane) (Unit {0}) × List ℕ → Option Lane × List ℕ → Option Lane × List ℕ
after_look (Break front, t) more = (front, t)
after_look (Continue u, t) more = more

-- "lanes may settle or retire on the way": n lanes at most can leave a queue of n
unfoldable pub run_down_within : ℕ → List ℕ → Option Lane × List ℕ
run_down_within zero t = (None, t)
run_down_within (suc n) t = let u = look_front t in after_look u (run_down_within n u.1)

unfoldable pub run_down : List ℕ → Option Lane × List ℕ
run_down t = run_down_within (queue_count t) t

unfoldable pub else_front : Option Lane × List ℕ → (List ℕ → Option Lane × List ℕ) → Option Lane × List ℕ
else_front (Some l, t) more = (Some l, t)
else_front (None, t) more = more t

-- "until nothing is queued and nothing is ready": the look that is due first, as in a plain receive, and a look for every ready lane where none is queued
unfoldable pub refresh_active : List ℕ → Option Lane × List ℕ
refresh_active t = else_front (run_down (collect_if_due t)) (λ u. run_down (collect_ready true u))

-- what is known of the table then: the lane is the front lane's, refilled; without one no lane is queued
pub record Fronts (t : List ℕ) (l : Lane) : Type 0 where
  pub turning : Turning t
  pub some : queue_count t ≡ 0 → ⊥
  pub filled : refill (front_lane t) ≡ Ok l

abbrev pub Reached : Option Lane × List ℕ → Type 0
Reached (Some l, t) = Fronts t l
Reached (None, t) = Idle t

-- ---- a chunk of it

-- "The port sets the budget to 64 just before that subtraction, when an item is in fact taken"
unfoldable pub full_budget : ℕ → ℕ
full_budget n = cond (eqb n 0) 64 n

-- as many items as are left of the limit, as the budget has, and as the lane may give before credit is due or its turn ends
unfoldable pub chunk_size : List ℕ → ℕ → Lane → ℕ
chunk_size t left l = min (min left (full_budget (budget t))) (chunk_limit (capacity t) l)

-- the lane's next n items
unfoldable pub chunk_items : List ℕ → List ℕ → ℕ → Lane → List ℕ
chunk_items t r n l = items (new_ring l.key.slot (capacity t)) r l.head n

-- "A lane that reaches a burst of 64 goes to the back." The n items are charged to the budget.
unfoldable pub gave_chunk : List ℕ → ℕ → Lane → List ℕ
gave_chunk t n l =
    let e = end_full_burst l in
    set_budget (rotate_if e.ended (put_lane t e.lane)) (full_budget (budget t) - n)

-- the table after them, with the lane counted on
unfoldable pub chunk_given : List ℕ → ℕ → Lane → List ℕ
chunk_given t n l = gave_chunk t n (move_chunk (capacity t) n l)

-- the items moved, the table, and the output with the items from place `at` on
unfoldable pub give_chunk : List ℕ → List ℕ → List ℕ → ℕ → ℕ → Lane → ℕ × List ℕ × List ℕ
give_chunk t r out at left l = let n = chunk_size t left l in (n, chunk_given t n l, written out at (chunk_items t r n l))

-- ---- chunk after chunk

-- each item with its lane's key, in order, and the table
abbrev pub HandsAndTable : Type 0
HandsAndTable = List (LaneKey × ℕ) × List ℕ

-- "A batch hands out its output in order, each item of the lane the rules take it from"
unfoldable pub chunk_then : Option Lane × List ℕ → List ℕ → ℕ → (List ℕ → ℕ → HandsAndTable) → HandsAndTable
chunk_then (None, t) r left more = ([], t)
chunk_then (Some l, t) r left more =
    let n = chunk_size t left l in
    let d = more (chunk_given t n l) (left - n) in
    (map (λ v. (l.key, v)) (chunk_items t r n l) ++ d.0, d.1)

-- "Batch: until the limit, or until nothing is queued and nothing is ready". Each chunk has an item at least: as many chunks as items are enough.
unfoldable pub drained_within : ℕ → List ℕ → List ℕ → ℕ → HandsAndTable
drained_within zero t r left = ([], t)
drained_within (suc n) t r left = cond (eqb left 0) ([], t) (chunk_then (refresh_active t) r left (λ u m. drained_within n u r m))

unfoldable pub drained : List ℕ → List ℕ → ℕ → HandsAndTable
drained t r limit = drained_within limit t r limit

-- the number of items, the table, and the output: the items, then its own words
unfoldable pub drain_into : List ℕ → List ℕ → List ℕ → ℕ → ℕ × List ℕ × List ℕ
drain_into t r out limit = let d = drained t r limit in (length d.0, d.1, rules.written_to d.0 out)

-- ---- the call

-- "output shorter than the limit"
unfoldable pub room_verdict : ℕ → ℕ → Verdict
room_verdict limit room = cond (ltb room limit) (Err OutputShort) (Ok tt)

-- refusals 6 and 14
unfoldable pub batch_verdict : List ℕ → ℕ → ℕ → Verdict
batch_verdict t limit room = and_then (receiver_verdict t) (room_verdict limit room)

-- "Limit 0 answers 0 items, even with no senders, and still gives back." Items handed out are held no more.
unfoldable pub answer_items : ℕ → ℕ → List ℕ → Answer × List ℕ
answer_items limit n t = cond (eqb n 0) (cond (eqb limit 0) (Items 0, t) (nothing_taken t)) (Items n, held_less t n)

-- what the answer asks of the table
abbrev pub RestsAt : ℕ → ℕ → List ℕ → Type 0
RestsAt limit n t = n ≡ 0 → (limit ≡ 0 → ⊥) → Idle t

-- "then every lane gives back its credit"
unfoldable pub batch_answer : List ℕ → List ℕ → ℕ → Answer × List ℕ
batch_answer t r limit = let d = drained t r limit in answer_items limit (length d.0) (release_all d.1)

unfoldable pub batch_words : List ℕ → List ℕ → ℕ → ℕ → Words
batch_words t r limit room = unless_refused (batch_verdict t limit room) t r (with_rings r (batch_answer t r limit))

-- what is handed out; nothing by a call that is refused
unfoldable pub handed_by : Verdict → List (LaneKey × ℕ) → List (LaneKey × ℕ)
handed_by (Ok u) l = l
handed_by (Err why) l = []

unfoldable pub batch_hands : List ℕ → List ℕ → ℕ → ℕ → List (LaneKey × ℕ)
batch_hands t r limit room = handed_by (batch_verdict t limit room) (drained t r limit).0

-- the answer, the table store, the ring store and the output
unfoldable pub try_recv_batch_into : List ℕ → List ℕ → List ℕ → ℕ → Answer × List ℕ × List ℕ × List ℕ
try_recv_batch_into t r out limit =
    let w = batch_words t r limit (length out) in
    (w.0, w.1, w.2, rules.written_to (batch_hands t r limit (length out)) out)
