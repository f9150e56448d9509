-- A lane in order stays in order under every method; under `move_chunk` with the `end_full_burst` that follows it.
-- Assumes nothing.
use Rattle.std.specs.Prelude.{Option, Some, None, Result, Ok, Err}
use mathlib.Core.Path.{◌≡◌, refl, ◌∙◌, sym, ap, ap₂}
use mathlib.Core.Bool.{Bool, true, false, cond, ◌||◌}
use mathlib.Core.List.{List}
use Prim.Native.Nat.{ℕ, ◌+◌, ◌-◌, ◌≤◌, ◌<◌, ◌^◌, min}
use native.Mathlib.Omega.{arith}
use borrow.Author.Tests.{eqb-true, eqb-false}
use lib.Dec.{eqb}
use Rattle.model.specs.State.{release_batch}
use Rattle.yring.proofs.ReleaseLaws.{batch_some}
use Rattle.yring.specs.Cursor.{after, distance, Capacity}
use Rattle.lane.specs.Lane.{with_cursors, with_counts, prefetch, reload, release, advance, close_fast, window_for, open_for, grant_fast, window_pop, pop_fast, release_at_batch, release_any, release_pending, settled, emptied, settle_empty, ready_or_idle, refill, reload_is_empty, charge, add_burst, end_burst, targeted, pop_targeted, polled, poll_item, poll_refilled, poll, fair_window, fairly, pop_lone, end_full_burst, chunk_limit, move_chunk, sent, push_and_flush_item, new_lane}
use Rattle.lane.specs.Table.{NarrowLane}
use Rattle.lane.specs.Order.{Cursors, Counts, InOrder, Filled, FoundEmpty, Refundable, sent_lane, popped_lane, refilled_lane, polled_lane}
use Rattle.yring.specs.Ring.{push_item, item_at}
use Rattle.model.specs.declared.LaneKey.{LaneKey}
use Rattle.yring.specs.declared.ring.Ring.{Ring}
use Rattle.lane.specs.declared.lane.Lane.{Lane}
use Rattle.lane.specs.declared.lane.Released.{Released}
use Rattle.yring.proofs.CursorLaws.{some, behind_after, ahead_after, distance_self, distance_none}
use Rattle.lane.proofs.CursorOrder.{held_adds, head_goes_on, tail_goes_on, known_is_tail, released_is_head}
use Rattle.lane.proofs.CountOrder.{counts_close, counts_narrow, counts_look, counts_open, counts_pop, counts_charge, counts_credit, counts_release, counts_burst}
use Rattle.lane.specs.declared.consumer.Taken.{Taken}
use Rattle.lane.specs.declared.lane.EmptyLane.{EmptyLane}

-- what holds of both sides of a test holds
pub cond_holds : {A : Type 0} (P : A → Type 0) (t : Bool) (x y : A) → (t ≡ true → P x) → (t ≡ false → P y) → P (cond t x y)
cond_holds P true x y f g = f refl
cond_holds P false x y f g = g refl

positive : {n : ℕ} → (n ≡ 0 → ⊥) → 0 < n
positive h = omega arith

module _ (C : ℕ) (small : C ≤ 65536) (l : Lane) (o : InOrder C l) where
  fits : {B d m c u b w : ℕ} → Counts B d m c u b w → m ≤ C → c + w < 2 ^ 64
  fits n h = omega arith

  credit : {B d m c u b w : ℕ} → Counts B d m c u b w → w ≤ u
  credit n = omega arith

  pub refundable : Refundable l
  refundable = record { fits = fits o.counts o.cursors.known_on; credit = credit o.counts; turn = o.counts.window_most }

  -- 32 bits hold its counts
  pub order_narrow : NarrowLane l
  order_narrow = counts_narrow o.counts (omega (arith, o.cursors.head_on)) (omega (arith, o.cursors.known_on))

  pub close_fast_keeps : InOrder C (close_fast l)
  close_fast_keeps = record { cursors = o.cursors; counts = counts_close o.counts }

  pub prefetch_keeps : l.cached ≡ 0 → InOrder C (prefetch l)
  prefetch_keeps e =
      record {
        cursors = known_is_tail C l.tail l.released l.head l.known small o.cursors;
        counts =
            counts_look o.counts (distance l.tail l.known) (distance l.tail l.head) e
            (held_adds C l.tail l.released l.head l.known small o.cursors);
      }

  pub reload_keeps : InOrder C (reload l)
  unfolding reload
  reload_keeps = cond_holds (InOrder C) (eqb l.cached 0) (prefetch l) l (λ e. prefetch_keeps (eqb-true l.cached 0 e)) (λ e. o)

-- a window for the counts fits them
pub window_fits : (c u b B n budget : ℕ) → u < B → b ≤ 63 → n ≡ min (min (min c (B - (u + 1))) (64 - (b + 1))) budget
    → (n ≤ c) × (u + n < B) × (b + n ≤ 63) × (n ≤ budget)
window_fits c u b B n budget h k e = (omega arith, omega arith, omega arith, omega arith)

module _ (C : ℕ) (small : C ≤ 65536) (budget : ℕ) (l : Lane) (o : InOrder C l) where
  pub window_for_fits : (window_for C budget l ≤ l.cached) × (l.unreleased + window_for C budget l < release_batch C) × (l.burst + window_for C budget l ≤ 63) × (window_for C budget l ≤ budget)
  unfolding window_for
  window_for_fits = window_fits l.cached l.unreleased l.burst (release_batch C) _ budget o.counts.unreleased_below o.counts.burst_most refl

  pub open_for_keeps : l.window ≡ 0 → InOrder C (open_for C budget l)
  unfolding open_for
  open_for_keeps e =
      let w = window_for_fits in
      record { cursors = o.cursors; counts = counts_open o.counts (window_for C budget l) e w.0 w.1 w.2 }

-- a look leaves the window as it is
pub reload_window : (l : Lane) → (reload l).window ≡ l.window
unfolding reload
reload_window l = cond_holds (λ m. m.window ≡ l.window) (eqb l.cached 0) (prefetch l) l (λ e. refl) (λ e. refl)

-- a look that leaves nothing cached has found the lane empty
pub reload_found_empty : (l : Lane) → l.window ≡ 0 → (reload l).cached ≡ 0 → FoundEmpty (reload l)
unfolding reload
reload_found_empty l w e = go (eqb l.cached 0) refl e
  where
    go : (t : Bool) → eqb l.cached 0 ≡ t → (cond t (prefetch l) l).cached ≡ 0 → FoundEmpty (cond t (prefetch l) l)
    go true s f = record { closed = w; none = f; looked = refl }
    go false s f = absurd (eqb-false l.cached 0 s f)

module _ (C : ℕ) (small : C ≤ 65536) (l : Lane) (o : InOrder C l) where
  pub closed_reload_keeps : InOrder C (reload (close_fast l))
  closed_reload_keeps = reload_keeps C small (close_fast l) (close_fast_keeps C small l o)

  pub grant_fast_keeps : (budget : ℕ) → InOrder C (grant_fast C budget l)
  unfolding grant_fast
  grant_fast_keeps budget = open_for_keeps C small budget (reload (close_fast l)) closed_reload_keeps (reload_window (close_fast l))

  -- the window's next item
  window_pop_keeps : 0 < l.window → InOrder C (window_pop l)
  window_pop_keeps h =
      let k : 1 ≤ distance l.known l.head = some o.counts h in
      record {
        cursors = head_goes_on C l.tail l.released l.head l.known small o.cursors 1 k;
        counts =
            rw (
              behind_after l.head l.released 1 o.cursors.head_u64 o.cursors.released_u64 (room o.cursors.head_on),
              ahead_after l.known l.head 1 o.cursors.known_u64 o.cursors.head_u64 k,
            )
            (counts_pop o.counts h);
      }
    where
      some : {B d m c u b w : ℕ} → Counts B d m c u b w → 0 < w → 1 ≤ m
      some n h = omega arith

      room : {a : ℕ} → a ≤ C → a + 1 < 2 ^ 64
      room h = omega arith

  pub pop_fast_keeps : (ring : Ring) (store : List ℕ) → InOrder C (popped_lane l (pop_fast ring store l))
  unfolding pop_fast
  pop_fast_keeps ring store =
      cond_holds (λ p. InOrder C (popped_lane l p)) (eqb l.window 0) None (Some (record { item = item_at ring store l.head; lane = window_pop l }))
      (λ e. o) (λ e. window_pop_keeps (positive (eqb-false l.window 0 e)))

  -- another burst
  pub burst_keeps : (n : ℕ) → l.window ≤ n → n ≤ 63 → InOrder C (with_counts l.cached l.unreleased n l.window l)
  burst_keeps n h k = record { cursors = o.cursors; counts = counts_burst o.counts n h k }

  -- n items are popped and counted, up to the batch, at which credit goes back
  pub take_keeps : (n : ℕ) → l.window ≡ 0 → n ≤ l.cached → l.unreleased + n ≤ release_batch C → InOrder C (release_at_batch C (charge n (advance n l))).lane
  unfolding release_at_batch
  take_keeps n e h k =
      cond_holds (λ (r : Released). InOrder C r.lane) (eqb (l.unreleased + n) (release_batch C))
      (record { lane = release m; released = true }) (record { lane = m; released = false })
      (λ t. record { cursors = released_is_head C l.tail l.released (after l.head n) l.known small on; counts = rw (distance_self (after l.head n) on.head_u64, ahead) (counts_credit o.counts n e h) })
      (λ t. record { cursors = on; counts = rw (behind, ahead) (counts_charge o.counts n e h (short k (eqb-false (l.unreleased + n) (release_batch C) t))) })
    where
      m : Lane
      m = charge n (advance n l)

      some : {B d m c u b w : ℕ} → Counts B d m c u b w → n ≤ c → n ≤ m
      some a b = omega arith

      short : {a B : ℕ} → a ≤ B → (a ≡ B → ⊥) → a < B
      short a b = omega arith

      room : {a c : ℕ} → a ≤ C → n ≤ c → c ≤ C → a + n < 2 ^ 64
      room a b c = omega arith

      within : n ≤ distance l.known l.head
      within = some o.counts h

      on : Cursors C l.tail l.released (after l.head n) l.known
      on = head_goes_on C l.tail l.released l.head l.known small o.cursors n within

      behind : distance (after l.head n) l.released ≡ distance l.head l.released + n
      behind = behind_after l.head l.released n o.cursors.head_u64 o.cursors.released_u64 (room o.cursors.head_on within o.cursors.known_on)

      ahead : distance l.known (after l.head n) ≡ distance l.known l.head - n
      ahead = ahead_after l.known l.head n o.cursors.known_u64 o.cursors.head_u64 within

  -- credit goes back where the window is closed
  pub released_keeps : l.window ≡ 0 → InOrder C (release l)
  released_keeps e =
      record {
        cursors = released_is_head C l.tail l.released l.head l.known small o.cursors;
        counts = rw (distance_self l.head o.cursors.head_u64) (counts_release o.counts e);
      }

  pub release_any_keeps : l.window ≡ 0 → InOrder C (release_any l).lane
  unfolding release_any
  release_any_keeps e =
      cond_holds (λ (r : Released). InOrder C r.lane) (eqb l.unreleased 0)
      (record { lane = l; released = false }) (record { lane = release l; released = true })
      (λ t. o) (λ t. released_keeps e)

  pub settled_keeps : l.window ≡ 0 → InOrder C (settled l)
  settled_keeps e = record { cursors = o.cursors; counts = counts_burst o.counts 0 (omega arith) (omega arith) }

-- credit given back leaves the window as it is
release_any_window : (l : Lane) → (release_any l).lane.window ≡ l.window
unfolding release_any
release_any_window l =
    cond_holds (λ (r : Released). r.lane.window ≡ l.window) (eqb l.unreleased 0)
    (record { lane = l; released = false }) (record { lane = release l; released = true }) (λ t. refl) (λ t. refl)

module _ (C : ℕ) (small : C ≤ 65536) (l : Lane) (o : InOrder C l) where
  pub release_pending_keeps : InOrder C (release_pending l).lane
  unfolding release_pending
  release_pending_keeps = release_any_keeps C small (close_fast l) (close_fast_keeps C small l o) refl

  pub settle_empty_keeps : InOrder C (settle_empty l).lane
  unfolding settle_empty emptied release_pending
  settle_empty_keeps = settled_keeps C small (release_pending l).lane release_pending_keeps (release_any_window (close_fast l))

  pub reload_is_empty_keeps : InOrder C (reload_is_empty l).lane
  unfolding reload_is_empty
  reload_is_empty_keeps = closed_reload_keeps C small l o

module _ (C : ℕ) (small : C ≤ 65536) (l : Lane) (o : InOrder C l) where
  pub refill_keeps : InOrder C (refilled_lane (refill l))
  unfolding refill ready_or_idle
  refill_keeps =
      let m : Lane = reload (close_fast l) in
      let k : InOrder C m = closed_reload_keeps C small l o in
      cond_holds (λ r. InOrder C (refilled_lane r)) (eqb m.cached 0) (Err (settle_empty m)) (Ok m)
      (λ t. settle_empty_keeps C small m k) (λ t. k)

  -- a lane that is ready is in order, its window closed, with an item at hand
  pub refill_fills : (m : Lane) → refill l ≡ Ok m → Filled C m
  unfolding refill ready_or_idle
  refill_fills m e = go (eqb n.cached 0) refl e
    where
      n : Lane
      n = reload (close_fast l)

      go : (t : Bool) → eqb n.cached 0 ≡ t → cond t (Err (settle_empty n)) (Ok n) ≡ Ok m → Filled C m
      go true s f = let z : ◌≡◌ {A = ℕ} 0 1 = cc in absurd (omega arith)
      go false s f =
          let same : n ≡ m = cc in
          rw (← same)
          (record {
            order = closed_reload_keeps C small l o;
            closed = reload_window (close_fast l);
            some = positive (eqb-false n.cached 0 s);
          })

-- credit at the batch leaves window and burst as they are
module _ (C : ℕ) (l : Lane) where
  pub at_batch_is : (P : Lane → Type 0) → P l → P (release l) → P (release_at_batch C l).lane
  unfolding release_at_batch
  at_batch_is P x y =
      cond_holds (λ (r : Released). P r.lane) (eqb l.unreleased (release_batch C))
      (record { lane = release l; released = true }) (record { lane = l; released = false }) (λ t. y) (λ t. x)

  pub at_batch_window : (release_at_batch C l).lane.window ≡ l.window
  at_batch_window = at_batch_is (λ m. m.window ≡ l.window) refl refl

  pub at_batch_burst : (release_at_batch C l).lane.burst ≡ l.burst
  at_batch_burst = at_batch_is (λ m. m.burst ≡ l.burst) refl refl

-- a turn counted on by n ends at 64, or goes on below it
module _ (C : ℕ) (small : C ≤ 65536) (l : Lane) (o : InOrder C l) (closed : l.window ≡ 0) where
  pub burst_on_keeps : (ends : Bool) (n : ℕ) → (ends ≡ false → l.burst + n ≤ 63) → InOrder C (end_burst ends (add_burst n l))
  burst_on_keeps true n h = burst_keeps C small l o 0 (rw closed (omega arith)) (omega arith)
  burst_on_keeps false n h = burst_keeps C small l o (l.burst + n) (rw closed (omega arith)) (h refl)

module _ (ring : Ring) (small : ring.capacity ≤ 65536) (store : List ℕ) (l : Lane) (f : Filled ring.capacity l) where
  one_more : {B d m c u b w : ℕ} → Counts B d m c u b w → u + 1 ≤ B
  one_more n = omega arith

  pub pop_targeted_keeps : InOrder ring.capacity (pop_targeted ring store l).lane
  unfolding pop_targeted targeted
  pop_targeted_keeps = take_keeps ring.capacity small l f.order 1 f.closed f.some (one_more f.order.counts)

  pub pop_targeted_window : (pop_targeted ring store l).lane.window ≡ 0
  unfolding pop_targeted targeted
  pop_targeted_window = at_batch_window ring.capacity (charge 1 (advance 1 l)) ∙ f.closed

  pub poll_item_keeps : (fair : Bool) → InOrder ring.capacity (polled_lane (poll_item ring store fair l))
  unfolding poll_item polled
  poll_item_keeps fair =
      let t : Lane = (pop_targeted ring store l).lane in
      burst_on_keeps ring.capacity small t pop_targeted_keeps pop_targeted_window (fair || eqb (t.burst + 1) 64) 1
      (λ g. below pop_targeted_keeps.counts.burst_most (eqb-false (t.burst + 1) 64 (right_false fair (eqb (t.burst + 1) 64) g)))
    where
      below : {n : ℕ} → n ≤ 63 → (n + 1 ≡ 64 → ⊥) → n + 1 ≤ 63
      below h k = omega arith

      right_false : (a b : Bool) → (a || b) ≡ false → b ≡ false
      right_false true b h = cc
      right_false false b h = h

module _ (ring : Ring) (small : ring.capacity ≤ 65536) (store : List ℕ) (l : Lane) (o : InOrder ring.capacity l) where
  pub poll_keeps : (fair : Bool) → InOrder ring.capacity (polled_lane (poll ring store fair l))
  unfolding poll poll_refilled
  poll_keeps fair = go (refill l) refl
    where
      go : (r : Result Lane EmptyLane) → refill l ≡ r → InOrder ring.capacity (polled_lane (poll_refilled ring store fair r))
      go (Ok m) e = poll_item_keeps ring small store m (refill_fills ring.capacity small l o m e) fair
      go (Err found) e = rw (ap refilled_lane e) at (refill_keeps ring.capacity small l o)

  pub fair_window_keeps : (budget : ℕ) → InOrder ring.capacity (fair_window ring.capacity budget l)
  unfolding fair_window
  fair_window_keeps budget =
      cond_holds (InOrder ring.capacity) (eqb l.window 0) (grant_fast ring.capacity budget (end_burst true l)) l
      (λ t.
      grant_fast_keeps ring.capacity small (end_burst true l)
      (burst_keeps ring.capacity small l o 0 (rw (eqb-true l.window 0 t) (omega arith)) (omega arith)) budget)
      (λ t. o)

  pub pop_fair_keeps : (budget : ℕ) → InOrder ring.capacity (popped_lane (fair_window ring.capacity budget l) (pop_lone ring store budget l))
  unfolding pop_lone fairly
  pop_fair_keeps budget =
      go (pop_fast ring store (fair_window ring.capacity budget l))
      (pop_fast_keeps ring.capacity small (fair_window ring.capacity budget l) (fair_window_keeps budget) ring store)
    where
      most : {B d m c u b w : ℕ} → Counts B d m c u b w → w ≤ 63
      most n = omega arith

      go : (p : Option Taken) → let w = fair_window ring.capacity budget l in InOrder ring.capacity (popped_lane w p) → InOrder ring.capacity (popped_lane w (fairly p))
      go (Some taken) k = burst_keeps ring.capacity small taken.lane k taken.lane.window (omega arith) (most k.counts)
      go None k = k

-- credit at the batch and the count of the turn do not meet
at_batch_adds : (C n : ℕ) (l : Lane) → (release_at_batch C (add_burst n l)).lane ≡ add_burst n (release_at_batch C l).lane
unfolding release_at_batch
at_batch_adds C n l = go (eqb l.unreleased (release_batch C))
  where
    go : (t : Bool)
        → (cond {A = Released} t (record { lane = release (add_burst n l); released = true }) (record { lane = add_burst n l; released = false })).lane
        ≡ add_burst n (cond {A = Released} t (record { lane = release l; released = true }) (record { lane = l; released = false })).lane
    go true = refl
    go false = refl

chunk_fits : {u b B : ℕ} (take c : ℕ) → u < B → b ≤ 63 → take ≤ min (min c (64 - b)) (B - u) → (take ≤ c) × (u + take ≤ B) × (b + take ≤ 64)
chunk_fits take c h k e = (omega arith, omega arith, omega arith)

-- a chunk within its limit, and the end of a burst that it filled
module _ (C : ℕ) (small : C ≤ 65536) (l : Lane) (f : Filled C l) (take : ℕ) (h : take ≤ chunk_limit C l) where
  pub chunk_within : (take ≤ l.cached) × (l.unreleased + take ≤ release_batch C) × (l.burst + take ≤ 64)
  unfolding chunk_limit
  chunk_within = chunk_fits take l.cached f.order.counts.unreleased_below f.order.counts.burst_most h

  -- its items are in the ring, and no more than one move takes
  pub chunk_room : (take ≤ C) × (take ≤ 64)
  chunk_room = (room f.order.counts f.order.cursors.known_on chunk_within.0, omega (arith, chunk_within.2))
    where
      room : {B d a c u b w : ℕ} → Counts B d a c u b w → a ≤ C → take ≤ c → take ≤ C
      room k p q = omega arith

  pub move_chunk_keeps : InOrder C (end_full_burst (move_chunk C take l)).lane
  unfolding move_chunk end_full_burst
  move_chunk_keeps =
      let x : Lane = charge take (advance take l) in
      let m : Lane = (release_at_batch C x).lane in
      let k : InOrder C m = take_keeps C small l f.order take f.closed chunk_within.0 chunk_within.1 in
      let w : m.window ≡ 0 = at_batch_window C x ∙ f.closed in
      let b : m.burst ≡ l.burst = at_batch_burst C x in
      rw (at_batch_adds C take x)
      (burst_on_keeps C small m k w (eqb (m.burst + take) 64) take
      (λ g. below (rw (← b) at chunk_within.2) (eqb-false (m.burst + take) 64 g)))
    where
      below : {n : ℕ} → n ≤ 64 → (n ≡ 64 → ⊥) → n ≤ 63
      below p q = omega arith

-- a send keeps the lane in order
module _ (ring : Ring) (small : ring.capacity ≤ 65536) (store : List ℕ) (item : ℕ) (l : Lane) (o : InOrder ring.capacity l) where
  pub push_and_flush_keeps : InOrder ring.capacity (sent_lane l (push_and_flush_item ring store item l).0)
  unfolding push_and_flush_item sent push_item
  push_and_flush_keeps = go (eqb (distance l.tail l.released) ring.capacity) refl
    where
      go : (t : Bool) → eqb (distance l.tail l.released) ring.capacity ≡ t → InOrder ring.capacity (sent_lane l (push_and_flush_item ring store item l).0)
      go true e = rw e o
      go false e =
          rw e
          (record {
            cursors = tail_goes_on ring.capacity l.tail l.released l.head l.known small o.cursors (eqb-false (distance l.tail l.released) ring.capacity e);
            counts = o.counts;
          })

-- a lane newly registered is in order
pub new_lane_in_order : (C : ℕ) → Capacity C → (key : LaneKey) (cursor : ℕ) → cursor < 2 ^ 64 → InOrder C (new_lane key cursor)
new_lane_in_order C k key cursor h =
    let z : distance cursor cursor ≡ 0 = distance_self cursor h in
    record {
      cursors = record { tail_u64 = h; released_u64 = h; head_u64 = h; known_u64 = h; head_on = rw z (omega arith); known_on = rw z (omega arith); tail_on = rw z (omega arith); tail_within = rw z (omega arith) };
      counts = rw z (record { cached_is = refl; unreleased_is = refl; unreleased_below = batch_some C (some C k); window_most = omega arith; burst_most = omega arith });
    }

-- A LANE FOUND EMPTY

-- a look that finds nothing new changes nothing
look_same : (l : Lane) → distance l.tail l.known ≡ l.cached → l.tail ≡ l.known → prefetch l ≡ l
look_same l e f = ap₂ (λ (c k : ℕ). with_counts c l.unreleased l.burst l.window (with_cursors l.tail l.released l.head k l)) e f

module _ (C : ℕ) (small : C ≤ 65536) (l : Lane) (o : InOrder C l) (none : (reload (close_fast l)).cached ≡ 0) where
  -- it was looked at, and what is known of is all that was published
  found_by_look : (reload (close_fast l) ≡ prefetch (close_fast l)) × (l.cached + l.window ≡ 0)
  unfolding reload
  found_by_look = go (eqb (l.cached + l.window) 0) refl none
    where
      go : (t : Bool) → eqb (l.cached + l.window) 0 ≡ t → (cond t (prefetch (close_fast l)) (close_fast l)).cached ≡ 0
          → (cond t (prefetch (close_fast l)) (close_fast l) ≡ prefetch (close_fast l)) × (l.cached + l.window ≡ 0)
      go true s f = (refl, eqb-true (l.cached + l.window) 0 s)
      go false s f = absurd (eqb-false (l.cached + l.window) 0 s f)

  nothing_new : distance l.tail l.known ≡ 0
  nothing_new = sym (ap (λ (m : Lane). m.cached) found_by_look.0) ∙ none

  -- its ring is empty: the Rust's test of `is_disconnected` on the cursors holds
  pub found_empty : l.tail ≡ l.head
  found_empty =
      distance_none l.tail l.head o.cursors.tail_u64 o.cursors.head_u64
      (held_adds C l.tail l.released l.head l.known small o.cursors ∙ ap₂ ◌+◌ nothing_new (sym o.counts.cached_is ∙ found_by_look.1))

  -- `Keep` never occurs: settled, the lane has nothing published since, and the Rust's second look changes nothing
  pub keep_never : prefetch (settle_empty (reload (close_fast l))).lane ≡ (settle_empty (reload (close_fast l))).lane
  unfolding settle_empty emptied release_pending release_any
  keep_never =
      rw found_by_look.0
      (cond_holds (λ (r : Released). prefetch (settled r.lane) ≡ settled r.lane) (eqb (close_fast (prefetch (close_fast l))).unreleased 0)
      (record { lane = close_fast (prefetch (close_fast l)); released = false }) (record { lane = release (close_fast (prefetch (close_fast l))); released = true })
      (λ t. look_same (settled (close_fast (prefetch (close_fast l)))) same refl)
      (λ t. look_same (settled (release (close_fast (prefetch (close_fast l))))) same refl))
    where
      same : distance l.tail l.tail ≡ distance l.tail l.known + 0
      same = distance_self l.tail o.cursors.tail_u64 ∙ sym (ap (λ (n : ℕ). n + 0) nothing_new)
