-- A batch that stops, in chunks: a chunk that is all admitted and then the rest, or a stop inside a chunk.
-- Assumes nothing.
use mathlib.Core.Path.{◌≡◌, refl, ap, sym, ◌∙◌, subst}
use mathlib.Core.Bool.{Bool, true, false}
use mathlib.Core.List.{List, [], ◌∷◌, ◌++◌}
use Prim.Native.Nat.{ℕ, zero, suc, ◌+◌, ◌-◌, ◌≤◌, ◌<◌}
use native.Mathlib.Nat.{zero-add}
use native.Mathlib.Omega.{arith}
use lib.ListN.{length, drop, length-append, length-drop}
use lib.Dec.{leb}
use borrow.Author.Tests.{ne_eqb}
use Rattle.model.specs.declared.LaneKey.{LaneKey}
use Rattle.model.specs.Lists.{if}
use Rattle.model.specs.State.{Slot, State, release_batch}
use Rattle.model.specs.Changes.{with_budget}
use Rattle.model.specs.Turn.{refill, Took, polled}
use Rattle.model.specs.Receive.{take_up_to, admitted, halted, take_while}
use Rattle.model.specs.Order.{Ordered}
use Rattle.demands.proofs.Counting.{Same, equal, other, same?, self}
use Rattle.demands.proofs.Simulation.{state_path}
use Rattle.demands.proofs.FrontItem.{polled_front_lem}
use Rattle.demands.proofs.WholeChunk.{first_of, lane_after, given, ChunkFits, onto, take_up_to_none, take_up_to_polled, take_up_to_more, take_up_to_chunk, length_first_of, given_ordered}
use Rattle.demands.proofs.StopLaws.{halted_ordered, Stops, while_law}

-- ---- the admitted items of two lists

admitted_append_all : (b : ℕ) (x y : List (LaneKey × ℕ)) → admitted b x ≡ length x → admitted b (x ++ y) ≡ length x + admitted b y
unfolding admitted
admitted_append_all b [] y e = sym (zero-add (admitted b y))
admitted_append_all b (g ∷ x) y e = go (leb g.1 b) e (admitted_append_all b x y)
  where
    go : (c : Bool) → if c (suc (admitted b x)) 0 ≡ suc (length x) → (admitted b x ≡ length x → admitted b (x ++ y) ≡ length x + admitted b y) → if c (suc (admitted b (x ++ y))) 0 ≡ suc (length x) + admitted b y
    go true e ih = omega (arith, ih (omega arith))
    go false e ih = absurd (omega arith)

admitted_append_some : (b : ℕ) (x y : List (LaneKey × ℕ)) → admitted b x < length x → admitted b (x ++ y) ≡ admitted b x
unfolding admitted
admitted_append_some b [] y h = absurd (omega arith)
admitted_append_some b (g ∷ x) y h = go (leb g.1 b) h (admitted_append_some b x y)
  where
    go : (c : Bool) → if c (suc (admitted b x)) 0 < suc (length x) → (admitted b x < length x → admitted b (x ++ y) ≡ admitted b x) → if c (suc (admitted b (x ++ y))) 0 ≡ if c (suc (admitted b x)) 0
    go true h ih = ap suc (ih (omega arith))
    go false h ih = refl

-- ---- in parts

-- What was handed out before, and what a batch that may stop takes after it.
abbrev pub onto_while : List (LaneKey × ℕ) → Bool × Took → Bool × Took
onto_while l t = (t.0, onto l t.1)

pub while_none : (b : ℕ) (s : State) → take_while b 0 s ≡ (false, ([], s))
unfolding take_up_to
while_none b s = while_law (λ t es. t ≡ (false, ([], s))) b 0 s (λ all. refl) (λ n w. absurd (omega (arith, w.fewer)))

-- nothing is queued and nothing is ready
pub while_nothing : (b limit : ℕ) (s : State) → 1 ≤ limit → (polled s).queue ≡ [] → take_while b limit s ≡ (false, ([], polled s))
while_nothing b limit s h e =
    let none : take_up_to limit s ≡ ([], polled s) = take_up_to_none limit s h e in
    while_law (λ t es. t ≡ (false, ([], polled s))) b limit s (λ all. ap (λ (t : Took). (false, t)) none) (λ n w. absurd (omega (arith, w.fewer, ap (λ (t : Took). length t.0) none)))

-- n items were there and all are admitted: m more are looked at after them
module _ (b n m : ℕ) (s : State) (h : length (take_up_to n s).0 ≡ n) (a : admitted b (take_up_to n s).0 ≡ n) where
  first : List (LaneKey × ℕ)
  first = (take_up_to n s).0

  then : State
  then = (take_up_to n s).1

  whole : take_up_to (n + m) s ≡ onto first (take_up_to m then)
  unfolding first then
  whole = take_up_to_more n m s h

  count_whole : admitted b (take_up_to (n + m) s).0 ≡ n + admitted b (take_up_to m then).0
  unfolding first
  count_whole = ap (λ (t : Took). admitted b t.0) whole ∙ admitted_append_all b first (take_up_to m then).0 (a ∙ sym h) ∙ ap (λ (k : ℕ). k + admitted b (take_up_to m then).0) h

  length_whole : length (take_up_to (n + m) s).0 ≡ n + length (take_up_to m then).0
  unfolding first
  length_whole = ap (λ (t : Took). length t.0) whole ∙ length-append first (take_up_to m then).0 ∙ ap (λ (k : ℕ). k + length (take_up_to m then).0) h

  goes_on : admitted b (take_up_to m then).0 ≡ length (take_up_to m then).0 → take_while b (n + m) s ≡ (false, onto first (take_up_to m then))
  goes_on e =
      while_law (λ t es. t ≡ (false, onto first (take_up_to m then))) b (n + m) s
      (λ all. ap (λ (t : Took). (false, t)) whole)
      (λ k w. absurd (omega (arith, w.fewer, w.is_count, e, count_whole, length_whole)))

  stops_on : (j : ℕ) → Stops b m j then → take_while b (n + m) s ≡ (true, (first ++ (take_up_to j then).0, halted (polled (take_up_to j then).1)))
  unfolding first then
  stops_on j w =
      while_law (λ t es. t ≡ (true, (first ++ (take_up_to j then).0, halted (polled (take_up_to j then).1)))) b (n + m) s
      (λ all. absurd (omega (arith, w.fewer, w.is_count, all, count_whole, length_whole)))
      (λ k v. ap (λ (i : ℕ). (true, ((take_up_to i s).0, halted (polled (take_up_to i s).1)))) (at k v.is_count) ∙ ap (λ (t : Took). (true, (t.0, halted (polled t.1)))) (take_up_to_more n j s h))
    where
      at : (k : ℕ) → k ≡ admitted b (take_up_to (n + m) s).0 → k ≡ n + j
      at k e = omega (arith, e, count_whole, w.is_count)

  pub while_more : take_while b (n + m) s ≡ onto_while (take_up_to n s).0 (take_while b m (take_up_to n s).1)
  unfolding first then
  while_more = while_law (λ t es. take_while b (n + m) s ≡ onto_while (take_up_to n s).0 t) b m (take_up_to n s).1 (λ all. goes_on all) (λ j w. stops_on j w)

-- a chunk of the front lane that is all admitted, and the batch of what is left of the limit
pub while_chunk : (b limit n : ℕ) (s : State) (y : ℕ) (q : List ℕ) → (polled s).queue ≡ y ∷ q → ChunkFits (polled s) y n → n ≤ limit → admitted b (first_of (polled s) y n) ≡ n
    → take_while b limit s ≡ onto_while (first_of (polled s) y n) (take_while b (limit - n) (given (polled s) y q n))
while_chunk b limit n s y q e f h a =
    let taken : take_up_to n s ≡ (first_of (polled s) y n, given (polled s) y q n) = take_up_to_polled n s y q e f in
    let all : length (take_up_to n s).0 ≡ n = ap (λ (t : Took). length t.0) taken ∙ length_first_of n (polled s) y f.in_ring in
    let in_bound : admitted b (take_up_to n s).0 ≡ n = ap (λ (t : Took). admitted b t.0) taken ∙ a in
    ap (λ (k : ℕ). take_while b k s) (split limit n h)
    ∙ while_more b n (limit - n) s all in_bound
    ∙ ap (λ (t : Took). onto_while t.0 (take_while b (limit - n) t.1)) taken
  where
    split : (a b : ℕ) → b ≤ a → a ≡ b + (a - b)
    split a b i = omega arith

-- ---- a stop inside a chunk: k of its c items are taken

refill_same : (b : ℕ) → 1 ≤ b → refill b ≡ b
unfolding refill
refill_same zero h = absurd (omega arith)
refill_same (suc b) h = refl

module _ (p : State) (y : ℕ) (q : List ℕ) (c : ℕ) (e : p.queue ≡ y ∷ q) (f : ChunkFits p y c) (k : ℕ) (h : k < c) where
  lane_is : (given p y q k).slot_of y ≡ lane_after (release_batch p.capacity) (drop k (p.slot_of y).ring) ((p.slot_of y).unreleased + k) ((p.slot_of y).burst + k) (p.slot_of y)
  lane_is = rw (self y)

  queue_is : (given p y q k).queue ≡ y ∷ q
  queue_is = rw (ne_eqb ((p.slot_of y).burst + k) 64 (λ z. omega (arith, f.in_burst)))

  budget_left : 1 ≤ (given p y q k).budget
  budget_left = omega (arith, f.in_budget)

  -- the state after the k items is polled already
  given_polled : polled (given p y q k) ≡ given p y q k
  given_polled = go ((given p y q k).slot_of y).ring refl (subst (λ (l : Slot). 1 ≤ length l.ring) (sym lane_is) (omega (arith, length-drop k (p.slot_of y).ring, f.in_ring)))
    where
      go : (l : List ℕ) → ((given p y q k).slot_of y).ring ≡ l → 1 ≤ length ((given p y q k).slot_of y).ring → polled (given p y q k) ≡ given p y q k
      go [] r z = absurd (omega (arith, ap length r))
      go (v ∷ vs) r z = polled_front_lem (given p y q k) y v q vs queue_is r budget_left

  given_halted : halted (given p y q k) ≡ given p y q k
  unfolding halted
  given_halted = ap (λ (b : ℕ). with_budget b (given p y q k)) (refill_same _ budget_left)

  -- none of the chunk's items is taken
  none_given : k ≡ 0 → (p.slot_of y).unreleased < release_batch p.capacity → halted p ≡ given p y q k
  unfolding halted
  none_given z u =
      state_path _ _ (λ x. slot x (same? y x)) (e ∙ sym queue_is) refl refl (omega (arith, z)) refl refl refl refl refl refl
    where
      n_is : (m : ℕ) → m + k ≡ m
      n_is m = omega (arith, z)

      drops : (l : List ℕ) → drop k l ≡ l
      drops l = subst (λ (m : ℕ). drop m l ≡ l) (sym z) refl

      lane : lane_after (release_batch p.capacity) (drop k (p.slot_of y).ring) ((p.slot_of y).unreleased + k) ((p.slot_of y).burst + k) (p.slot_of y) ≡ p.slot_of y
      lane =
          rw (drops (p.slot_of y).ring, n_is (p.slot_of y).unreleased, n_is (p.slot_of y).burst, ne_eqb (p.slot_of y).unreleased (release_batch p.capacity) (λ w. omega (arith, u)), ne_eqb (p.slot_of y).burst 64 (λ w. omega (arith, f.in_burst, f.some)))

      slot : (x : ℕ) → Same y x → p.slot_of x ≡ (given p y q k).slot_of x
      slot x (equal i b j) = rw b (ap p.slot_of (sym i) ∙ sym lane)
      slot x (other d b j) = rw b

-- a part of a chunk is one
part_fits : (p : State) (y c k : ℕ) → 1 ≤ k → k < c → ChunkFits p y c → ChunkFits p y k
part_fits p y c k i h f = record { some = i; in_ring = omega (arith, f.in_ring); in_budget = omega (arith, f.in_budget); in_burst = omega (arith, f.in_burst); in_batch = omega (arith, f.in_batch) }

module _ (s : State) (y : ℕ) (q : List ℕ) (c : ℕ) (e : (polled s).queue ≡ y ∷ q) (f : ChunkFits (polled s) y c) (u : ((polled s).slot_of y).unreleased < release_batch (polled s).capacity) where
  part_taken : (k : ℕ) → k < c → (take_up_to k s).0 ≡ first_of (polled s) y k
  unfolding take_up_to
  part_taken zero h = refl
  part_taken (suc k) h = ap (λ (t : Took). t.0) (take_up_to_polled (suc k) s y q e (part_fits (polled s) y c (suc k) (omega arith) h f))

  pub halts_given : (k : ℕ) → k < c → halted (polled (take_up_to k s).1) ≡ given (polled s) y q k
  unfolding take_up_to
  halts_given zero h = none_given (polled s) y q c e f zero h refl u
  halts_given (suc k) h =
      ap (λ (t : Took). halted (polled t.1)) (take_up_to_polled (suc k) s y q e (part_fits (polled s) y c (suc k) (omega arith) h f))
      ∙ ap halted (given_polled (polled s) y q c e f (suc k) h) ∙ given_halted (polled s) y q c e f (suc k) h

  pub while_stops_in_chunk : (b limit k : ℕ) → c ≤ limit → k < c → admitted b (first_of (polled s) y c) ≡ k → take_while b limit s ≡ (true, (first_of (polled s) y k, given (polled s) y q k))
  while_stops_in_chunk b limit k m h a =
      while_law (λ t es. t ≡ (true, (first_of (polled s) y k, given (polled s) y q k))) b limit s
      (λ all. absurd (omega (arith, all, count_is, long, h)))
      (λ n w. ap (λ (i : ℕ). (true, ((take_up_to i s).0, halted (polled (take_up_to i s).1)))) (w.is_count ∙ count_is)
      ∙ ap (λ (l : List (LaneKey × ℕ)). (true, (l, halted (polled (take_up_to k s).1)))) (part_taken k h)
      ∙ ap (λ (v : State). (true, (first_of (polled s) y k, v))) (halts_given k h))
    where
      rest : Took
      rest = take_up_to (limit - c) (given (polled s) y q c)

      whole : take_up_to limit s ≡ onto (first_of (polled s) y c) rest
      whole = take_up_to_chunk limit c s y q e f m

      chunk : length (first_of (polled s) y c) ≡ c
      chunk = length_first_of c (polled s) y f.in_ring

      count_is : admitted b (take_up_to limit s).0 ≡ k
      count_is = ap (λ (t : Took). admitted b t.0) whole ∙ admitted_append_some b (first_of (polled s) y c) rest.0 (omega (arith, a, chunk, h)) ∙ a

      long : c ≤ length (take_up_to limit s).0
      long = omega (arith, ap (λ (t : Took). length t.0) whole, length-append (first_of (polled s) y c) rest.0, chunk)

-- order after a part of a chunk, none of it too
pub part_given_ordered : (k c : ℕ) (p : State) (y : ℕ) (q : List ℕ) → p.queue ≡ y ∷ q → ChunkFits p y c → k < c → (p.slot_of y).unreleased < release_batch p.capacity → Ordered p → Ordered (given p y q k)
part_given_ordered zero c p y q e f h u o = subst Ordered (none_given p y q c e f zero h refl u) (halted_ordered p o)
part_given_ordered (suc k) c p y q e f h u o = given_ordered (suc k) p y q e (part_fits p y c (suc k) (omega arith) h f) o
