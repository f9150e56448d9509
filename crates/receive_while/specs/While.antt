-- The batch that stops in front of an item, as words: the batch's loop, with a step that takes the admitted items of a chunk.
-- The sentences are those of document 02, N2.
-- Assumes nothing.
use Rattle.std.specs.Prelude.{Bool, true, false, cond, List, [], ◌++◌, map, ℕ, zero, suc, ◌-◌, eqb, ltb, length, Option, Some, None}
use Rattle.model.specs.declared.LaneKey.{LaneKey}
use Rattle.model.specs.declared.Answer.{Answer}
use Rattle.model.specs.declared.Answer.TheVariants.{Stopped}
use Rattle.model.specs.Receive as rules
use Rattle.lane.specs.declared.lane.Lane.{Lane}
use Rattle.queues.specs.Header.{held_less}
use Rattle.yring.specs.Lists.{written}
use Rattle.yring.specs.Ring.{accepted_prefix}
use Rattle.store.specs.Words.{Words, unless_refused, with_rings}
use Rattle.all_lanes.specs.AllLanes.{release_all}
use Rattle.receive_while.specs.declared.batch_while.Drained.{Drained}
use Rattle.receive_batch.specs.Batch.{refresh_active, chunk_size, chunk_items, chunk_given, HandsAndTable, batch_verdict, answer_items, handed_by}

-- "an item is admitted if it is at most a bound given with the call": how many of a chunk of n come before the first that is not
unfoldable pub chunk_admitted : List ℕ → List ℕ → ℕ → ℕ → Lane → ℕ
chunk_admitted t r bound n l = accepted_prefix bound (chunk_items t r n l)

-- the admitted items of a chunk moved, whether one was not, the table, and the output with the items from place `at` on.
-- "which stays in front with its burst": with no item admitted the lane is stored as the look left it, and only a budget of 0 becomes 64.
unfoldable pub give_admitted : List ℕ → List ℕ → List ℕ → ℕ → ℕ → ℕ → Lane → Drained × List ℕ × List ℕ
give_admitted t r out at left bound l =
    let n = chunk_size t left l in
    let k = chunk_admitted t r bound n l in
    (record { received = k; rejected = ltb k n }, chunk_given t k l, written out at (chunk_items t r k l))

-- whether it stopped; each item with its lane's key, in order, and the table
abbrev pub DrainedWhile : Type 0
DrainedWhile = Bool × HandsAndTable

-- what follows a look: nothing is left, or the admitted items of a chunk and, where all of it was admitted, the rest
unfoldable pub while_then : Option Lane × List ℕ → List ℕ → ℕ → ℕ → (List ℕ → ℕ → DrainedWhile) → DrainedWhile
while_then (None, t) r bound left more = (false, ([], t))
while_then (Some l, t) r bound left more =
    let n = chunk_size t left l in
    let k = chunk_admitted t r bound n l in
    let hs : List (LaneKey × ℕ) = map (λ v. (l.key, v)) (chunk_items t r k l) in
    let d = more (chunk_given t k l) (left - k) in
    cond (ltb k n) (true, (hs, chunk_given t k l)) (d.0, (hs ++ d.1.0, d.1.1))

-- "The batch is the plain one, but below its limit it stops in front of the first item not admitted". A chunk that does not stop it has an item at
-- least: as many chunks as items are enough.
unfoldable pub drained_while_within : ℕ → List ℕ → List ℕ → ℕ → ℕ → DrainedWhile
drained_while_within zero t r bound left = (false, ([], t))
drained_while_within (suc n) t r bound left = cond (eqb left 0) (false, ([], t)) (while_then (refresh_active t) r bound left (λ u m. drained_while_within n u r bound m))

unfoldable pub drained_while : List ℕ → List ℕ → ℕ → ℕ → DrainedWhile
drained_while t r limit bound = drained_while_within limit t r bound limit

-- the number of items and whether it stopped, the table, and the output: the items, then its own words
unfoldable pub drain_while : List ℕ → List ℕ → List ℕ → ℕ → ℕ → Drained × List ℕ × List ℕ
drain_while t r out limit bound =
    let d = drained_while t r limit bound in
    (record { received = length d.1.0; rejected = d.0 }, d.1.1, rules.written_to d.1.0 out)

-- "it answers the count and whether it stopped so. A stop at count 0 is never Empty." The items counted are held no more.
unfoldable pub answer_while : ℕ → Drained → List ℕ → Answer × List ℕ
answer_while limit m t = cond m.rejected (Stopped m.received, held_less t m.received) (answer_items limit m.received t)

unfoldable pub while_answer : List ℕ → List ℕ → ℕ → ℕ → Answer × List ℕ
while_answer t r limit bound =
    let d = drained_while t r limit bound in
    answer_while limit record { received = length d.1.0; rejected = d.0 } (release_all d.1.1)

-- "Credit and refusals are as in the plain batch."
unfoldable pub while_words : List ℕ → List ℕ → ℕ → ℕ → ℕ → Words
while_words t r limit bound room = unless_refused (batch_verdict t limit room) t r (with_rings r (while_answer t r limit bound))

-- what is handed out; nothing by a call that is refused
unfoldable pub while_hands : List ℕ → List ℕ → ℕ → ℕ → ℕ → List (LaneKey × ℕ)
while_hands t r limit bound room = handed_by (batch_verdict t limit room) (drained_while t r limit bound).1.0

-- the answer, the table store, the ring store and the output
unfoldable pub try_recv_batch_into_while : List ℕ → List ℕ → List ℕ → ℕ → ℕ → Answer × List ℕ × List ℕ × List ℕ
try_recv_batch_into_while t r out limit bound =
    let w = while_words t r limit bound (length out) in
    (w.0, w.1, w.2, rules.written_to (while_hands t r limit bound (length out)) out)
