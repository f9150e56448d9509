-- The batch's loop, round by round as the Rust writes it in `drain_into`, and where it ends. The rules' `take_up_to` takes item by item,
-- and `take_while` is cut from what that takes. First the plain batch, then the one with a bound.
-- Said of every state in order, and so of every state in a run from an accepted opening.
-- Assumes nothing.
use Rattle.std.specs.Prelude.{◌≡◌, Bool, true, false, List, [], ◌∷◌, ◌++◌, map, ℕ, ◌+◌, ◌-◌, ◌≤◌, ◌<◌, min, length, take, drop, eqb}
use Rattle.model.specs.declared.LaneKey.{LaneKey}
use Rattle.model.specs.Lists.{if}
use Rattle.model.specs.State.{State, key_of, release_batch}
use Rattle.model.specs.Changes.{with_queue, with_budget, put, popped}
use Rattle.model.specs.Turn.{Took, settle_empty}
use Rattle.model.specs.Receive.{take_up_to, admitted, take_while}
use Rattle.model.specs.Order.{InOrder}
use Rattle.model.specs.PollLoop.{refresh_active}

-- `(limit - received).min(self.items_until_ready_poll).min(lane.chunk_limit())`: as many items as are left of the limit and of the budget, as the lane has cached,
-- and as are left of its burst of 64 and of its release batch. With a budget of 0 that is none.
unfoldable pub chunk_length : ℕ → ℕ → State → ℕ → ℕ
chunk_length left cached s y =
    min (min left s.budget) (min (min cached (64 - (s.slot_of y).burst)) (release_batch s.capacity - (s.slot_of y).unreleased))

-- The next n items of lane y.
unfoldable pub chunk_items : State → ℕ → ℕ → List (LaneKey × ℕ)
chunk_items s y n = map (λ v. (key_of s y, v)) (take n (s.slot_of y).ring)

-- The state after them; y is the front lane, and q the queue behind it. `self.items_until_ready_poll -= moved`;
-- "Credit goes back when the unreleased count reaches the release batch"; "A lane that reaches a burst of 64 goes to the back."
unfoldable pub after_chunk : State → ℕ → List ℕ → ℕ → State
after_chunk s y q n =
    let l = s.slot_of y in
    let due = eqb (l.unreleased + n) (release_batch s.capacity) in
    let full = eqb (l.burst + n) 64 in
    with_budget (s.budget - n)
    (with_queue (if full (q ++ (y ∷ [])) (y ∷ q))
    (put y (popped (drop n l.ring) (if due 0 (l.unreleased + n)) (if full 0 (l.burst + n)) l) s))

-- The Rust's rounds with `left` items still to be had, `while received < limit && self.refresh_active()`, the items that they move, and the state in which they end.
-- In each t is the state after `refresh_active`.
pub data Rounds : ℕ → State → List (LaneKey × ℕ) → State → Type 0 where
  -- `received` is the limit,
  limit_reached : (left : ℕ) (s : State) → left ≡ 0 → Rounds left s [] s
  -- or nothing is queued.
  nothing_left : (left : ℕ) (s t : State) → 1 ≤ left → refresh_active s ≡ t → t.queue ≡ [] → Rounds left s [] t
  -- `lane.refill()` finds the front lane empty: it leaves, and the next round follows.
  front_empty : (left : ℕ) (s t u : State) (l : List (LaneKey × ℕ)) (y : ℕ) (q : List ℕ)
      → 1 ≤ left → refresh_active s ≡ t → t.queue ≡ y ∷ q → (t.slot_of y).ring ≡ []
      → Rounds left (settle_empty y q t) l u → Rounds left s l u
  -- Else n items of it are moved. How many a lane has cached the rules do not know: one at least, and no more than there are.
  chunk_moved : (left cached n : ℕ) (s t u : State) (l : List (LaneKey × ℕ)) (y : ℕ) (q : List ℕ)
      → 1 ≤ left → refresh_active s ≡ t → t.queue ≡ y ∷ q → 1 ≤ cached → cached ≤ length (t.slot_of y).ring → chunk_length left cached t y ≡ n
      → Rounds (left - n) (after_chunk t y q n) l u → Rounds left s (chunk_items t y n ++ l) u

-- The rules' batch hands out what such rounds move, and comes to the state in which they end,
unfoldable pub BatchAsLoop : Type 0
BatchAsLoop = (s : State) → InOrder s → (limit : ℕ) → let t = take_up_to limit s in Rounds limit s t.0 t.1

-- and whatever the lanes have cached, the rounds do not end elsewhere.
unfoldable pub RoundsEndOnce : Type 0
RoundsEndOnce = (s : State) → InOrder s → (limit : ℕ) (l : List (LaneKey × ℕ)) (u : State) → Rounds limit s l u → ◌≡◌ {A = Took} (l, u) (take_up_to limit s)

-- The same rounds with the admission rule of document 02, N2: "an item is admitted if it is at most a bound given with the call".
-- The Bool is the Rust's `rejected`. A round of the first four kinds differs from one of `Rounds` only in that all of its chunk is admitted.
pub data RoundsWhile (bound : ℕ) : ℕ → State → Bool → List (LaneKey × ℕ) → State → Type 0 where
  while_limit_reached : (left : ℕ) (s : State) → left ≡ 0 → RoundsWhile bound left s false [] s
  while_nothing_left : (left : ℕ) (s t : State) → 1 ≤ left → refresh_active s ≡ t → t.queue ≡ [] → RoundsWhile bound left s false [] t
  while_front_empty : (left : ℕ) (s t u : State) (rejected : Bool) (l : List (LaneKey × ℕ)) (y : ℕ) (q : List ℕ)
      → 1 ≤ left → refresh_active s ≡ t → t.queue ≡ y ∷ q → (t.slot_of y).ring ≡ []
      → RoundsWhile bound left (settle_empty y q t) rejected l u → RoundsWhile bound left s rejected l u
  -- `moved` is `take`, which it is where `take` is 0 too, whatever the next item: the next round follows.
  while_chunk_moved : (left cached n : ℕ) (s t u : State) (rejected : Bool) (l : List (LaneKey × ℕ)) (y : ℕ) (q : List ℕ)
      → 1 ≤ left → refresh_active s ≡ t → t.queue ≡ y ∷ q → 1 ≤ cached → cached ≤ length (t.slot_of y).ring → chunk_length left cached t y ≡ n
      → admitted bound (chunk_items t y n) ≡ n
      → RoundsWhile bound (left - n) (after_chunk t y q n) rejected l u → RoundsWhile bound left s rejected (chunk_items t y n ++ l) u
  -- `moved < take`: k items are moved, none perhaps, and no round follows.
  item_rejected : (left cached n k : ℕ) (s t : State) (y : ℕ) (q : List ℕ)
      → 1 ≤ left → refresh_active s ≡ t → t.queue ≡ y ∷ q → 1 ≤ cached → cached ≤ length (t.slot_of y).ring → chunk_length left cached t y ≡ n
      → admitted bound (chunk_items t y n) ≡ k → k < n
      → RoundsWhile bound left s true (chunk_items t y k) (after_chunk t y q k)

-- The rules' batch with a bound stops where such rounds end with an item rejected, hands out what they move, and comes to the state in which they end,
unfoldable pub WhileAsLoop : Type 0
WhileAsLoop = (s : State) → InOrder s → (bound limit : ℕ) → let t = take_while bound limit s in RoundsWhile bound limit s t.0 t.1.0 t.1.1

-- and whatever the lanes have cached, the rounds do not end elsewhere.
unfoldable pub WhileRoundsEndOnce : Type 0
WhileRoundsEndOnce =
    (s : State) → InOrder s → (bound limit : ℕ) (rejected : Bool) (l : List (LaneKey × ℕ)) (u : State)
    → RoundsWhile bound limit s rejected l u → ◌≡◌ {A = Bool × Took} (rejected, (l, u)) (take_while bound limit s)
