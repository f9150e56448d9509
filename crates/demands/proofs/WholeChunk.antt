-- A chunk of the front lane, taken at once, is that many of a batch's items: up to where the burst, the release batch or the budget runs out, and that item too.
-- Assumes nothing.
use mathlib.Core.Path.{◌≡◌, refl, ap, sym, ◌∙◌, subst}
use mathlib.Core.Bool.{false}
use mathlib.Core.List.{List, [], ◌∷◌, ◌++◌, map, append_assoc, append-nil}
use Prim.Native.Nat.{ℕ, zero, suc, ◌+◌, ◌-◌, ◌≤◌, ◌<◌, min}
use native.Mathlib.Omega.{arith}
use native.Mathlib.Nat.{zero-add, suc-add}
use lib.ListN.{length, get_or, take, drop, length-take, length-map}
use lib.Dec.{eqb, leb}
use borrow.Author.Tests.{lt-leb, le-leb, ne_eqb}
use Rattle.model.specs.declared.LaneKey.{LaneKey}
use Rattle.model.specs.Lists.{if}
use Rattle.model.specs.State.{Slot, State, key_of, release_batch}
use Rattle.model.specs.Changes.{with_budget, with_queue, put, popped}
use Rattle.model.specs.Turn.{refill, unreleased_after_one, give_item, Took, give_oldest, give_front, polled, take_one}
use Rattle.model.specs.Receive.{and_more, take_up_to}
use Rattle.model.specs.Order.{Ordered}
use Rattle.demands.proofs.Counting.{Same, equal, other, same?, self}
use Rattle.demands.proofs.Simulation.{state_path}
use Rattle.demands.proofs.OrderKept.{give_front_ordered, and_more_ordered, take_up_to_ordered}
use Rattle.demands.proofs.Quiet.{poll}
use Rattle.demands.proofs.WaitInReceive.{Settled, nothing_queued, front, poll_settled}
use Rattle.demands.proofs.FrontItem.{polled_front_lem}

-- The first n items of lane y, as they are handed out.
abbrev pub first_of : State → ℕ → ℕ → List (LaneKey × ℕ)
first_of s y n = map (λ v. (key_of s y, v)) (take n (s.slot_of y).ring)

-- A lane of release batch R as a chunk leaves it: vs in its ring, and the unreleased count u and the burst b reached.
abbrev pub lane_after : ℕ → List ℕ → ℕ → ℕ → Slot → Slot
lane_after R vs u b l = popped vs (if (eqb u R) 0 u) (if (eqb b 64) 0 b) l

-- The queue after it: with a burst of 64 lane y goes behind q.
abbrev pub queue_after : ℕ → List ℕ → ℕ → List ℕ
queue_after y q b = if (eqb b 64) (q ++ (y ∷ [])) (y ∷ q)

-- The front lane y, before q in the queue, has given n items.
abbrev pub given : State → ℕ → List ℕ → ℕ → State
given s y q n =
    with_budget (refill s.budget - n)
    (with_queue (queue_after y q ((s.slot_of y).burst + n))
    (put y (lane_after (release_batch s.capacity) (drop n (s.slot_of y).ring) ((s.slot_of y).unreleased + n) ((s.slot_of y).burst + n) (s.slot_of y)) s))

-- n items of lane y are one chunk: the ring has them, and nothing runs out before the last of them.
pub record ChunkFits (s : State) (y n : ℕ) : Type 0 where
  pub some : 1 ≤ n
  pub in_ring : n ≤ length (s.slot_of y).ring
  pub in_budget : n ≤ refill s.budget
  pub in_burst : (s.slot_of y).burst + n ≤ 64
  pub in_batch : (s.slot_of y).unreleased + n ≤ release_batch s.capacity

-- An item of the front lane and then up to m more, where the poll is done.
abbrev pub take_first : ℕ → State → Took
take_first m s = let t = give_front false s s.queue in and_more t.0 t.1 (take_up_to m t.1)

-- a test of 63 before the item is a test of 64 after it
full_after : (b : ℕ) → b < 64 → leb 63 b ≡ eqb (b + 1) 64
full_after b h = go (same? (b + 1) 64)
  where
    go : Same (b + 1) 64 → leb 63 b ≡ eqb (b + 1) 64
    go (equal e t i) = le-leb 63 b (omega arith) ∙ sym t
    go (other d t i) = lt-leb 63 b (below b h d) ∙ sym t
      where
        below : (b : ℕ) → b < 64 → (b + 1 ≡ 64 → ⊥) → b < 63
        below b h d = omega arith

-- one item
give_one : (s : State) (y v : ℕ) (q vs : List ℕ) → (s.slot_of y).ring ≡ v ∷ vs → (s.slot_of y).burst < 64 → give_item s y q vs (leb 63 (s.slot_of y).burst) ≡ given s y q 1
unfolding give_item unreleased_after_one
give_one s y v q vs r b =
    ap (give_item s y q vs) (full_after (s.slot_of y).burst b)
    ∙ ap (λ (l : List ℕ). give_item s y q l (eqb ((s.slot_of y).burst + 1) 64)) (sym (ap (drop 1) r))

give_front_one : (s : State) (y v : ℕ) (q vs : List ℕ) → s.queue ≡ y ∷ q → (s.slot_of y).ring ≡ v ∷ vs → (s.slot_of y).burst < 64 → give_front false s s.queue ≡ ((key_of s y, v) ∷ [], given s y q 1)
unfolding give_front give_oldest
give_front_one s y v q vs e r b =
    ap (give_front false s) e
    ∙ ap (give_oldest s false y q) r
    ∙ ap (λ (u : State). ((key_of s y, v) ∷ [], u)) (give_one s y v q vs r b)

-- a budget of 1 or more stays
pub refill_some : (b : ℕ) → 1 ≤ b → refill b ≡ b
unfolding refill
refill_some zero h = absurd (omega arith)
refill_some (suc b) h = refl

drop_more : (n : ℕ) (l : List ℕ) → drop n (drop 1 l) ≡ drop (suc n) l
drop_more n (x ∷ l) = refl
drop_more zero [] = refl
drop_more (suc n) [] = refl

-- an item with which neither the burst nor the release batch is full
module _ (s : State) (y : ℕ) (q : List ℕ) where
  one_more : Slot
  one_more = popped (drop 1 (s.slot_of y).ring) ((s.slot_of y).unreleased + 1) ((s.slot_of y).burst + 1) (s.slot_of y)

  begun : State
  begun = with_budget (refill s.budget - 1) (with_queue (y ∷ q) (put y one_more s))

  begins : (s.slot_of y).burst + 1 < 64 → (s.slot_of y).unreleased + 1 < release_batch s.capacity → given s y q 1 ≡ begun
  unfolding begun one_more
  begins b c = rw (ne_eqb ((s.slot_of y).burst + 1) 64 (λ e. omega arith), ne_eqb ((s.slot_of y).unreleased + 1) (release_batch s.capacity) (λ e. omega arith))

  lane_begun : begun.slot_of y ≡ one_more
  unfolding begun
  lane_begun = rw (self y)

  -- n more after it
  given_more : (n : ℕ) → 1 ≤ refill s.budget - 1 → given begun y q n ≡ given s y q (suc n)
  unfolding begun one_more
  given_more n h = state_path _ _ (λ z. slot z (same? y z)) (ap (queue_after y q) bursts) refl refl (ap (λ (x : ℕ). x - n) (refill_some (refill s.budget - 1) h) ∙ less (refill s.budget)) refl refl refl refl refl refl
    where
      less : (x : ℕ) → x - 1 - n ≡ x - suc n
      less x = omega arith

      more : (x : ℕ) → x + 1 + n ≡ x + suc n
      more x = omega arith

      bursts : (begun.slot_of y).burst + n ≡ (s.slot_of y).burst + suc n
      bursts = ap (λ (l : Slot). l.burst + n) lane_begun ∙ more (s.slot_of y).burst

      lanes : lane_after (release_batch s.capacity) (drop n (begun.slot_of y).ring) ((begun.slot_of y).unreleased + n) ((begun.slot_of y).burst + n) (begun.slot_of y) ≡ lane_after (release_batch s.capacity) (drop (suc n) (s.slot_of y).ring) ((s.slot_of y).unreleased + suc n) ((s.slot_of y).burst + suc n) (s.slot_of y)
      lanes = ap (λ (l : Slot). lane_after (release_batch s.capacity) (drop n l.ring) (l.unreleased + n) (l.burst + n) l) lane_begun
          ∙ (λ t. lane_after (release_batch s.capacity) (drop_more n (s.slot_of y).ring t) (more (s.slot_of y).unreleased t) (more (s.slot_of y).burst t) (s.slot_of y))

      slot : (z : ℕ) → Same y z → (given begun y q n).slot_of z ≡ (given s y q (suc n)).slot_of z
      slot z (equal p e i) = rw e lanes
      slot z (other d e i) = rw e

  -- the first of several items of one chunk: what is left is a chunk of the state after it
  first_of_chunk : (v : ℕ) (vs : List ℕ) (n : ℕ) → (s.slot_of y).ring ≡ v ∷ vs → ChunkFits s y (suc n) → 1 ≤ n → ChunkFits begun y n
  unfolding begun one_more
  first_of_chunk v vs n r f h = record {
    some = h;
    in_ring = omega (arith, ap length ring_begun, ap length r, f.in_ring);
    in_budget = omega (arith, refill_some (refill s.budget - 1) (omega (arith, f.in_budget)), f.in_budget);
    in_burst = omega (arith, ap (λ (l : Slot). l.burst) lane_begun, f.in_burst);
    in_batch = omega (arith, ap (λ (l : Slot). l.unreleased) lane_begun, f.in_batch);
  }
    where
      ring_begun : (begun.slot_of y).ring ≡ vs
      ring_begun = ap (λ (l : Slot). l.ring) lane_begun ∙ ap (drop 1) r

  -- the state after the first item is polled already
  begun_polled : (n : ℕ) → ChunkFits begun y n → 1 ≤ refill s.budget - 1 → polled begun ≡ begun
  unfolding begun
  begun_polled n f h = go (begun.slot_of y).ring refl f.in_ring
    where
      go : (l : List ℕ) → (begun.slot_of y).ring ≡ l → n ≤ length l → polled begun ≡ begun
      go [] r i = absurd (omega (arith, f.some))
      go (w ∷ ws) r i = polled_front_lem begun y w q ws refl r h

-- the item, and the items after it
module _ (s : State) (y v : ℕ) (q vs : List ℕ) (e : s.queue ≡ y ∷ q) (r : (s.slot_of y).ring ≡ v ∷ vs) where
  take_first_one : ChunkFits s y 1 → take_first 0 s ≡ (first_of s y 1, given s y q 1)
  unfolding take_up_to and_more
  take_first_one f =
      ap (λ (t : Took). and_more t.0 t.1 (take_up_to 0 t.1)) (give_front_one s y v q vs e r (omega (arith, f.in_burst)))
      ∙ ap (λ (l : List ℕ). (map (λ x. (key_of s y, x)) (take 1 l), given s y q 1)) (sym r)

  -- takeFirst (suc m) s, where the m + 1 items after the first are known
  take_first_more : (m : ℕ) → (s.slot_of y).burst + 1 < 64 → (s.slot_of y).unreleased + 1 < release_batch s.capacity → 1 ≤ refill s.budget - 1 → polled (begun s y q) ≡ begun s y q
      → take_first m (begun s y q) ≡ (first_of (begun s y q) y (suc m), given (begun s y q) y q (suc m)) → take_first (suc m) s ≡ (first_of s y (suc (suc m)), given s y q (suc (suc m)))
  unfolding take_up_to and_more take_one one_more
  take_first_more m b c h p ih =
      let first : give_front false s s.queue ≡ ((key_of s y, v) ∷ [], begun s y q) = give_front_one s y v q vs e r (omega arith) ∙ ap (λ (u : State). ((key_of s y, v) ∷ [], u)) (begins s y q b c) in
      ap (λ (t : Took). and_more t.0 t.1 (take_up_to (suc m) t.1)) first
      ∙ ap (λ (u : State). (let t = take_first m u in ((key_of s y, v) ∷ t.0, t.1))) p
      ∙ ap (λ (t : Took). ((key_of s y, v) ∷ t.0, t.1)) ih
      ∙ ap (λ (l : Slot). ((key_of s y, v) ∷ map (λ x. (record { slot = y; generation = l.generation }, x)) (take (suc m) l.ring), given (begun s y q) y q (suc m))) (lane_begun s y q)
      ∙ ap (λ (u : State). ((key_of s y, v) ∷ map (λ x. (key_of s y, x)) (take (suc m) (drop 1 (s.slot_of y).ring)), u)) (given_more s y q (suc m) h)
      ∙ ap (λ (l : List ℕ). ((key_of s y, v) ∷ map (λ x. (key_of s y, x)) (take (suc m) (drop 1 l)), given s y q (suc (suc m)))) r
      ∙ ap (λ (l : List ℕ). (map (λ x. (key_of s y, x)) (take (suc (suc m)) l), given s y q (suc (suc m)))) (sym r)

take_whole : (m : ℕ) (s : State) (y : ℕ) (q : List ℕ) → s.queue ≡ y ∷ q → ChunkFits s y (suc m) → take_first m s ≡ (first_of s y (suc m), given s y q (suc m))
unfolding begun
take_whole zero s y q e f = one (s.slot_of y).ring refl
  where
    one : (l : List ℕ) → (s.slot_of y).ring ≡ l → take_first 0 s ≡ (first_of s y 1, given s y q 1)
    one [] r = absurd (omega (arith, f.in_ring, ap length r))
    one (v ∷ vs) r = take_first_one s y v q vs e r f
take_whole (suc m) s y q e f = more (s.slot_of y).ring refl (take_whole m (begun s y q) y q refl)
  where
    more : (l : List ℕ) → (s.slot_of y).ring ≡ l → (ChunkFits (begun s y q) y (suc m) → take_first m (begun s y q) ≡ (first_of (begun s y q) y (suc m), given (begun s y q) y q (suc m)))
        → take_first (suc m) s ≡ (first_of s y (suc (suc m)), given s y q (suc (suc m)))
    more [] r ih = absurd (omega (arith, f.in_ring, ap length r))
    more (v ∷ vs) r ih =
        let rest : ChunkFits (begun s y q) y (suc m) = first_of_chunk s y q v vs (suc m) r f (omega arith) in
        let left : 1 ≤ refill s.budget - 1 = omega (arith, f.in_budget) in
        take_first_more s y v q vs e r m (omega (arith, f.in_burst)) (omega (arith, f.in_batch)) left (begun_polled s y q (suc m) rest left) (ih rest)

pub take_whole_chunk : (n : ℕ) (s : State) (y : ℕ) (q : List ℕ) → s.queue ≡ y ∷ q → ChunkFits s y n → take_first (n - 1) s ≡ (first_of s y n, given s y q n)
take_whole_chunk zero s y q e f = absurd (omega (arith, f.some))
take_whole_chunk (suc m) s y q e f = ap (λ (k : ℕ). take_first k s) (one_less m) ∙ take_whole m s y q e f
  where
    one_less : (k : ℕ) → suc k - 1 ≡ k
    one_less k = omega arith

-- A BATCH IN CHUNKS

-- the poll ends at a lane with an item, or with nothing queued
polled_settled : (s : State) → Settled (polled s)
unfolding poll
polled_settled s = poll_settled false s

pub polled_front_holds : (s : State) (y : ℕ) (q : List ℕ) → (polled s).queue ≡ y ∷ q → 1 ≤ length ((polled s).slot_of y).ring
polled_front_holds s y q e = go (polled_settled s)
  where
    go : Settled (polled s) → 1 ≤ length ((polled s).slot_of y).ring
    go (nothing_queued f) = absurd (omega (arith, ap length (sym f ∙ e)))
    go (front x v p vs f r) =
        let x_is_y : x ≡ y = ap (λ (l : List ℕ). get_or l 0 0) (sym f ∙ e) in
        omega (arith, ap (λ (z : ℕ). length ((polled s).slot_of z).ring) x_is_y, ap length r)

-- nothing is queued and nothing is ready
pub take_up_to_none : (n : ℕ) (s : State) → 1 ≤ n → (polled s).queue ≡ [] → take_up_to n s ≡ ([], polled s)
unfolding take_up_to and_more take_one give_front
take_up_to_none zero s h e = absurd (omega arith)
take_up_to_none (suc m) s h e = ap (λ (l : List ℕ). (let t = give_front false (polled s) l in and_more t.0 t.1 (take_up_to m t.1))) e

-- a chunk of the front lane
pub take_up_to_polled : (n : ℕ) (s : State) (y : ℕ) (q : List ℕ) → (polled s).queue ≡ y ∷ q → ChunkFits (polled s) y n → take_up_to n s ≡ (first_of (polled s) y n, given (polled s) y q n)
unfolding take_up_to take_one
take_up_to_polled zero s y q e f = absurd (omega (arith, f.some))
take_up_to_polled (suc m) s y q e f = take_whole m (polled s) y q e f

-- What was handed out before, and what a take hands out after it.
abbrev pub onto : List (LaneKey × ℕ) → Took → Took
onto l t = (l ++ t.0, t.1)

-- n items were there: m more are taken after them
pub take_up_to_more : (n m : ℕ) (s : State) → length (take_up_to n s).0 ≡ n → take_up_to (n + m) s ≡ onto (take_up_to n s).0 (take_up_to m (take_up_to n s).1)
unfolding take_up_to and_more
take_up_to_more zero m s h = ap (λ (k : ℕ). take_up_to k s) (zero-add m)
take_up_to_more (suc n) m s h = ap (λ (k : ℕ). take_up_to k s) (suc-add n m) ∙ go (take_one s).0 (take_one s).1 (take_up_to_more n m (take_one s).1) h
  where
    go : (l : List (LaneKey × ℕ)) (u : State) → (length (take_up_to n u).0 ≡ n → take_up_to (n + m) u ≡ onto (take_up_to n u).0 (take_up_to m (take_up_to n u).1))
        → length (and_more l u (take_up_to n u)).0 ≡ suc n → and_more l u (take_up_to (n + m) u) ≡ onto (and_more l u (take_up_to n u)).0 (take_up_to m (and_more l u (take_up_to n u)).1)
    go [] u ih k = absurd (omega arith)
    go (g ∷ l) u ih k = ap (λ (t : Took). (g ∷ t.0, t.1)) (ih (omega arith))

-- fewer than n were there: nothing is queued and nothing is ready any more
pub take_up_to_short : (n m : ℕ) (s : State) → length (take_up_to n s).0 < n → take_up_to (n + m) s ≡ take_up_to n s
unfolding take_up_to and_more
take_up_to_short zero m s h = absurd (omega arith)
take_up_to_short (suc n) m s h = ap (λ (k : ℕ). take_up_to k s) (suc-add n m) ∙ go (take_one s).0 (take_one s).1 (take_up_to_short n m (take_one s).1) h
  where
    go : (l : List (LaneKey × ℕ)) (u : State) → (length (take_up_to n u).0 < n → take_up_to (n + m) u ≡ take_up_to n u)
        → length (and_more l u (take_up_to n u)).0 < suc n → and_more l u (take_up_to (n + m) u) ≡ and_more l u (take_up_to n u)
    go [] u ih k = refl
    go (g ∷ l) u ih k = ap (λ (t : Took). (g ∷ t.0, t.1)) (ih (omega arith))

pub length_first_of : (n : ℕ) (s : State) (y : ℕ) → n ≤ length (s.slot_of y).ring → length (first_of s y n) ≡ n
length_first_of n s y h = length-map (take n (s.slot_of y).ring) (λ v. (key_of s y, v)) ∙ length-take n (s.slot_of y).ring ∙ least n (length (s.slot_of y).ring) h
  where
    least : (a b : ℕ) → a ≤ b → min a b ≡ a
    least a b i = omega arith

-- a batch is a chunk of the front lane, and the batch of what is left of the limit
module _ (limit n : ℕ) (s : State) (y : ℕ) (q : List ℕ) (e : (polled s).queue ≡ y ∷ q) (f : ChunkFits (polled s) y n) (h : n ≤ limit) where
  pub take_up_to_chunk : take_up_to limit s ≡ onto (first_of (polled s) y n) (take_up_to (limit - n) (given (polled s) y q n))
  take_up_to_chunk =
      let first : take_up_to n s ≡ (first_of (polled s) y n, given (polled s) y q n) = take_up_to_polled n s y q e f in
      let all : length (take_up_to n s).0 ≡ n = ap (λ (t : Took). length t.0) first ∙ length_first_of n (polled s) y f.in_ring in
      ap (λ (k : ℕ). take_up_to k s) (split limit n h)
      ∙ take_up_to_more n (limit - n) s all
      ∙ ap (λ (t : Took). onto t.0 (take_up_to (limit - n) t.1)) first
    where
      split : (a b : ℕ) → b ≤ a → a ≡ b + (a - b)
      split a b i = omega arith

  -- with l handed out before it: what a loop over chunks keeps
  pub take_up_to_chunk_onto : (l : List (LaneKey × ℕ)) → onto l (take_up_to limit s) ≡ onto (l ++ first_of (polled s) y n) (take_up_to (limit - n) (given (polled s) y q n))
  take_up_to_chunk_onto l =
      let t : Took = take_up_to (limit - n) (given (polled s) y q n) in
      ap (onto l) take_up_to_chunk ∙ ap (λ (i : List (LaneKey × ℕ)). (i, t.1)) (sym (append_assoc l (first_of (polled s) y n) t.0))

-- where such a loop ends: the limit is reached, or nothing is queued and nothing is ready
pub take_none_onto : (l : List (LaneKey × ℕ)) (s : State) → onto l (take_up_to 0 s) ≡ (l, s)
unfolding take_up_to
take_none_onto l s = ap (λ (i : List (LaneKey × ℕ)). (i, s)) (append-nil l)

pub take_up_to_none_onto : (l : List (LaneKey × ℕ)) (n : ℕ) (s : State) → 1 ≤ n → (polled s).queue ≡ [] → onto l (take_up_to n s) ≡ (l, polled s)
take_up_to_none_onto l n s h e = ap (onto l) (take_up_to_none n s h e) ∙ ap (λ (i : List (LaneKey × ℕ)). (i, polled s)) (append-nil l)

-- ORDER

-- a chunk keeps it, as a batch's takes do
pub given_ordered : (n : ℕ) (s : State) (y : ℕ) (q : List ℕ) → s.queue ≡ y ∷ q → ChunkFits s y n → Ordered s → Ordered (given s y q n)
given_ordered n s y q e f o =
    let t : Took = give_front false s s.queue in
    let u : Ordered t.1 = give_front_ordered false s s.queue refl o in
    subst (λ (r : Took). Ordered r.1) (take_whole_chunk n s y q e f) (and_more_ordered t.0 (n - 1) t.1 u (take_up_to_ordered (n - 1) t.1))
