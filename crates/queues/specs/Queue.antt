-- The queue: a ring of slot numbers, one place in each row of the table.
-- Assumes nothing.
use Rattle.std.specs.Prelude.{◌≡◌, cond, List, [], ◌∷◌, ℕ, ◌+◌, ◌-◌, ◌%◌, ◌≤◌, ◌<◌, eqb, length}
use Rattle.model.specs.Lists.{count}
use Rattle.yring.specs.Lists.{tab, scatter}
use Rattle.lane.specs.Table.{lane_words, cell_at, cell, set_cell, lane_at}
use Rattle.queues.specs.Header.{issued, queue_front, queue_count, slots, set_queue_front, set_queue_count}

-- the column of the rows that holds the queue's places
abbrev pub queue_column : ℕ
queue_column = lane_words

-- the row of the queue's place i, counted from its front, round a ring of S
abbrev pub queue_row : List ℕ → ℕ → ℕ
queue_row t i = (queue_front t + i) % slots t

-- the slots of the queued lanes, front first
unfoldable pub queue_of : List ℕ → List ℕ
queue_of t = tab (queue_count t) (λ i. cell t queue_column (queue_row t i))

-- the front slot
abbrev pub front_slot : List ℕ → ℕ
front_slot t = cell t queue_column (queue_front t)

-- "Whatever queues a lane, resume too, puts it at the back."
unfoldable pub push_back : List ℕ → ℕ → List ℕ
push_back t slot = set_queue_count (set_cell t queue_column (queue_row t (queue_count t)) slot) (queue_count t + 1)

unfoldable pub pop_front : List ℕ → List ℕ
pop_front t = set_queue_count (set_queue_front t (queue_row t 1)) (queue_count t - 1)

-- "goes to the back"
unfoldable pub rotate_left : List ℕ → List ℕ
rotate_left t = set_queue_front (set_cell t queue_column (queue_row t (queue_count t)) (front_slot t)) (queue_row t 1)

-- a list without a number, the others in their order
abbrev pub without : ℕ → List ℕ → List ℕ
without x [] = []
without x (y ∷ ys) = cond (eqb y x) (without x ys) (y ∷ without x ys)

-- these slots at the queue's places from its front on
unfoldable pub requeued : List ℕ → List ℕ → List ℕ
requeued t ws = set_queue_count (scatter t (λ i. cell_at queue_column (queue_row t i)) ws) (length ws)

unfoldable pub remove : List ℕ → ℕ → List ℕ
remove t slot = requeued t (without slot (queue_of t))

-- "The queue names each queued lane once": what it names are issued slots, each once, and the queued flag of a registered lane
-- says whether it is among them. That every slot named holds a registered lane is seen in the rules' state, and is said there.
pub record QueueNames (t : List ℕ) : Type 0 where
  pub once : (x : ℕ) → count x (queue_of t) ≤ 1
  pub issued_only : (x : ℕ) → 1 ≤ count x (queue_of t) → x < issued t
  pub flagged : (x : ℕ) → x < issued t → (lane_at t x).registered ≡ 1 → (lane_at t x).queued ≡ count x (queue_of t)
