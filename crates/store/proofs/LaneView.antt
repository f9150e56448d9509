-- What a lane's methods do to the counts that the rules see: the unreleased count and the burst, each less the window.
-- Assumes nothing.
use Rattle.std.specs.Prelude.{Option, Some, None, Ok, Err}
use mathlib.Core.Path.{◌≡◌, refl, sym, ap, ◌∙◌}
use mathlib.Core.Bool.{Bool, true, false, cond, ◌||◌}
use mathlib.Core.List.{List, []}
use Prim.Native.Nat.{ℕ, ◌+◌, ◌-◌, ◌≤◌, ◌<◌}
use native.Mathlib.Nat.{pos_of_ne-zero}
use native.Mathlib.Omega.{arith}
use borrow.Author.Tests.{eqb-true, eqb-false, le-leb, lt-leb}
use lib.Dec.{eqb, leb}
use Rattle.model.specs.Lists.{if, either}
use Rattle.model.specs.State.{release_batch}
use Rattle.yring.specs.declared.ring.Ring.{Ring}
use Rattle.lane.specs.declared.lane.Lane.{Lane}
use Rattle.lane.specs.declared.lane.Released.{Released}
use Rattle.lane.specs.declared.lane.EmptyLane.{EmptyLane}
use Rattle.lane.specs.declared.lane.LanePoll.{LanePoll}
use Rattle.lane.specs.Lane.{held_items, close_fast, prefetch, reload, open_for, grant_fast, window_pop, pop_fast, advance, charge, add_burst, end_burst, release, release_at_batch, targeted, pop_targeted, polled, poll_item, poll_refilled, poll, ready_or_idle, refill, release_any, release_pending, emptied, settle_empty, fair_window, burst_of_window, fairly, pop_lone}
use Rattle.lane.specs.Order.{Counts, InOrder}
use Rattle.yring.specs.Cursor.{distance}
use Rattle.yring.specs.Ring.{item_at, items}
use Rattle.yring.proofs.CursorLaws.{distance_self}
use Rattle.lane.proofs.OrderLaws.{cond_holds, fair_window_keeps, found_empty}
use Rattle.lane.proofs.HeldLaws.{reload_holds}
use Rattle.lane.specs.declared.consumer.Taken.{Taken}

abbrev pub unreleased_seen : Lane → ℕ
unreleased_seen l = l.unreleased - l.window

abbrev pub burst_seen : Lane → ℕ
burst_seen l = l.burst - l.window

-- ---- a look, and a window opened

-- a lane that was looked at, its window closed
abbrev pub looked : Lane → Lane
looked l = reload (close_fast l)

pub looked_counts : (l : Lane) → ((looked l).unreleased ≡ unreleased_seen l) × ((looked l).burst ≡ burst_seen l) × ((looked l).window ≡ 0)
unfolding reload
looked_counts l =
    cond_holds (λ m. (m.unreleased ≡ unreleased_seen l) × (m.burst ≡ burst_seen l) × (m.window ≡ 0)) (eqb (l.cached + l.window) 0) (prefetch (close_fast l)) (close_fast l)
    (λ e. (refl, refl, refl)) (λ e. (refl, refl, refl))

pub looked_seen : (l : Lane) → (unreleased_seen (looked l) ≡ unreleased_seen l) × (burst_seen (looked l) ≡ burst_seen l)
looked_seen l = let c = looked_counts l in (omega (arith, c.0, c.2), omega (arith, c.1, c.2))

-- a window opened is not seen
pub grant_seen : (C budget : ℕ) (l : Lane) → (unreleased_seen (grant_fast C budget l) ≡ unreleased_seen l) × (burst_seen (grant_fast C budget l) ≡ burst_seen l)
unfolding grant_fast open_for
grant_seen C budget l = let c = looked_counts l in (omega (arith, c.0), omega (arith, c.1))

pub grant_holds : (ring : Ring) (store : List ℕ) (C budget : ℕ) (l : Lane) → held_items ring store (grant_fast C budget l) ≡ held_items ring store l
unfolding grant_fast open_for held_items
grant_holds ring store C budget l = reload_holds ring store l

-- ---- an item of the window

-- one more is unreleased and one more taken in this turn, and neither count is full
pub record OneMore (C : ℕ) (l m : Lane) : Type 0 where
  pub unreleased_more : unreleased_seen m ≡ unreleased_seen l + 1
  pub burst_more : burst_seen m ≡ burst_seen l + 1
  pub below_batch : unreleased_seen l + 1 < release_batch C
  pub below_turn : burst_seen l < 63

one_back : (u w : ℕ) → 0 < w → w ≤ u → u - (w - 1) ≡ u - w + 1
one_back u w h k = omega arith

still_below : (u w B : ℕ) → 0 < w → w ≤ u → u < B → u - w + 1 < B
still_below u w B h k l = omega arith

window_unreleased : {B t m c u b w : ℕ} → Counts B t m c u b w → w ≤ u
window_unreleased k = omega arith

window_more : (C : ℕ) (l : Lane) → InOrder C l → 0 < l.window → OneMore C l (window_pop l)
window_more C l o n =
    let w : l.window ≤ l.unreleased = window_unreleased o.counts in
    record {
      unreleased_more = one_back l.unreleased l.window n w;
      burst_more = one_back l.burst l.window n o.counts.window_most;
      below_batch = still_below l.unreleased l.window (release_batch C) n w o.counts.unreleased_below;
      below_turn = turn l.burst l.window n o.counts.burst_most;
    }
  where
    turn : (b w : ℕ) → 0 < w → b ≤ 63 → b - w < 63
    turn b w h k = omega arith

module _ (C : ℕ) (ring : Ring) (store : List ℕ) (l : Lane) (o : InOrder C l) where
  pub pop_fast_more : (item : ℕ) (m : Lane) → pop_fast ring store l ≡ Some (record { item = item; lane = m }) → OneMore C l m
  unfolding pop_fast
  pop_fast_more item m e = go (eqb l.window 0) refl e
    where
      go : (t : Bool) → eqb l.window 0 ≡ t → cond {A = Option Taken} t None (Some (record { item = item_at ring store l.head; lane = window_pop l })) ≡ Some (record { item = item; lane = m }) → OneMore C l m
      go true s f = let z : ◌≡◌ {A = ℕ} 0 1 = cc in absurd (omega arith)
      go false s f =
          let given : ◌≡◌ {A = Taken} (record { item = item_at ring store l.head; lane = window_pop l }) (record { item = item; lane = m }) = cc in
          let same : window_pop l ≡ m = ap (λ (x : Taken). x.lane) given in
          rw (← same) (window_more C l o (pos_of_ne-zero (eqb-false l.window 0 s)))

-- ---- an item with full counting

-- the credit after one more item
abbrev pub unreleased_after : ℕ → ℕ → ℕ
unreleased_after C n = if (eqb (n + 1) (release_batch C)) 0 (n + 1)

module _ (ring : Ring) (store : List ℕ) (l : Lane) (closed : l.window ≡ 0) where
  -- of a lane whose window is closed
  pub pop_targeted_counts : ((pop_targeted ring store l).lane.unreleased ≡ unreleased_after ring.capacity l.unreleased)
      × ((pop_targeted ring store l).lane.burst ≡ l.burst) × ((pop_targeted ring store l).lane.window ≡ 0)
  unfolding pop_targeted targeted release_at_batch
  pop_targeted_counts = go (eqb (l.unreleased + 1) (release_batch ring.capacity))
    where
      after : Bool → Released
      after t = cond t (record { lane = release (charge 1 (advance 1 l)); released = true }) (record { lane = charge 1 (advance 1 l); released = false })

      go : (t : Bool) → ((after t).lane.unreleased ≡ if t 0 (l.unreleased + 1)) × ((after t).lane.burst ≡ l.burst) × ((after t).lane.window ≡ 0)
      go true = (refl, refl, closed)
      go false = (refl, refl, closed)

-- a turn ends with every item of a fair receive, else at a burst of 64
turn_ends : (fair : Bool) (n : ℕ) → n ≤ 63 → (fair || eqb (n + 1) 64) ≡ either fair (leb 63 n)
turn_ends true n h = refl
turn_ends false n h = go (eqb (n + 1) 64) refl
  where
    go : (b : Bool) → eqb (n + 1) 64 ≡ b → b ≡ leb 63 n
    go true e = sym (le-leb 63 n (omega (arith, eqb-true (n + 1) 64 e)))
    go false e = sym (lt-leb 63 n (omega (arith, eqb-false (n + 1) 64 e)))

-- what a poll that gives an item leaves of the counts
pub record Polled (C : ℕ) (fair : Bool) (l : Lane) (rotate : Bool) (m : Lane) : Type 0 where
  pub turn_over : rotate ≡ either fair (leb 63 (burst_seen l))
  pub unreleased_is : m.unreleased ≡ unreleased_after C (unreleased_seen l)
  pub burst_is : m.burst ≡ if rotate 0 (burst_seen l + 1)
  pub closed : m.window ≡ 0

module _ (ring : Ring) (store : List ℕ) (fair : Bool) where
  poll_item_counts : (l : Lane) → l.window ≡ 0 → l.burst ≤ 63 → (item : ℕ) (rotate gave : Bool) (m : Lane)
      → poll_item ring store fair l ≡ Ok (record { item = item; rotate = rotate; released = gave; lane = m })
      → (rotate ≡ either fair (leb 63 l.burst)) × (m.unreleased ≡ unreleased_after ring.capacity l.unreleased) × (m.burst ≡ if rotate 0 (l.burst + 1)) × (m.window ≡ 0)
  unfolding poll_item polled
  poll_item_counts l w h item rotate gave m e =
      let k : Lane = (pop_targeted ring store l).lane in
      let c = pop_targeted_counts ring store l w in
      let given : ◌≡◌ {A = LanePoll}
      (record { item = (pop_targeted ring store l).item; rotate = fair || eqb (k.burst + 1) 64; released = (pop_targeted ring store l).released; lane = end_burst (fair || eqb (k.burst + 1) 64) (add_burst 1 k) })
      (record { item = item; rotate = rotate; released = gave; lane = m }) = cc in
      let over : (fair || eqb (k.burst + 1) 64) ≡ rotate = ap (λ (p : LanePoll). p.rotate) given in
      let rest : end_burst (fair || eqb (k.burst + 1) 64) (add_burst 1 k) ≡ m = ap (λ (p : LanePoll). p.lane) given in
      let same : end_burst rotate (add_burst 1 k) ≡ m = sym (ap (λ (b : Bool). end_burst b (add_burst 1 k)) over) ∙ rest in
      let now = ended rotate k in (
        sym over ∙ ap (λ (n : ℕ). fair || eqb (n + 1) 64) c.1 ∙ turn_ends fair l.burst h,
        ap (λ (j : Lane). j.unreleased) (sym same) ∙ now.0 ∙ c.0,
        ap (λ (j : Lane). j.burst) (sym same) ∙ now.1 ∙ ap (λ (n : ℕ). if rotate 0 (n + 1)) c.1,
        ap (λ (j : Lane). j.window) (sym same) ∙ now.2 ∙ c.2,
      )
    where
      ended : (b : Bool) (k : Lane) → ((end_burst b (add_burst 1 k)).unreleased ≡ k.unreleased) × ((end_burst b (add_burst 1 k)).burst ≡ if b 0 (k.burst + 1)) × ((end_burst b (add_burst 1 k)).window ≡ k.window)
      ended true k = (refl, refl, refl)
      ended false k = (refl, refl, refl)

  -- a lane in order that gives an item
  pub poll_counts : (l : Lane) → InOrder ring.capacity l → (item : ℕ) (rotate gave : Bool) (m : Lane) → poll ring store fair l ≡ Ok (record { item = item; rotate = rotate; released = gave; lane = m })
      → Polled ring.capacity fair l rotate m
  unfolding poll poll_refilled refill ready_or_idle
  poll_counts l o item rotate gave m e = go (eqb (looked l).cached 0) e
    where
      most : {B t m c u b w : ℕ} → Counts B t m c u b w → b - w ≤ 63
      most k = omega arith

      go : (t : Bool) → poll_refilled ring store fair (cond t (Err (settle_empty (looked l))) (Ok (looked l))) ≡ Ok (record { item = item; rotate = rotate; released = gave; lane = m })
          → Polled ring.capacity fair l rotate m
      go true f = let z : ◌≡◌ {A = ℕ} 0 1 = cc in absurd (omega arith)
      go false f =
          let c = looked_counts l in
          let p = poll_item_counts (looked l) c.2 (rw c.1 (most o.counts)) item rotate gave m f in
          record {
            turn_over = p.0 ∙ ap (λ (n : ℕ). either fair (leb 63 n)) c.1;
            unreleased_is = p.1 ∙ ap (unreleased_after ring.capacity) c.0;
            burst_is = p.2 ∙ ap (λ (n : ℕ). if rotate 0 (n + 1)) c.1;
            closed = p.3;
          }

-- ---- a lane found empty

-- it holds nothing, its counts are 0, it is idle and in no queue; what it held and its sender are as they were
pub record FoundIdle (ring : Ring) (store : List ℕ) (l : Lane) (found : EmptyLane) : Type 0 where
  pub holds_none : held_items ring store l ≡ []
  pub same_ends : held_items ring store found.lane ≡ held_items ring store l
  pub unreleased_none : found.lane.unreleased ≡ 0
  pub burst_none : found.lane.burst ≡ 0
  pub closed : found.lane.window ≡ 0
  pub idle : found.lane.pending ≡ 0
  pub unqueued : found.lane.queued ≡ 0
  pub dropped : found.disconnected ≡ eqb l.living 0

-- a lane settled: its window was closed
module _ (l : Lane) (closed : l.window ≡ 0) where
  settle_cases : (P : EmptyLane → Type 0) → (l.unreleased ≡ 0 → P (emptied (record { lane = close_fast l; released = false })))
      → P (emptied (record { lane = release (close_fast l); released = true })) → P (settle_empty l)
  unfolding settle_empty release_pending release_any
  settle_cases P f g = go (eqb (l.unreleased - l.window) 0) refl
    where
      go : (t : Bool) → eqb (l.unreleased - l.window) 0 ≡ t
          → P (emptied (cond t (record { lane = close_fast l; released = false }) (record { lane = release (close_fast l); released = true })))
      go true e = f (omega (arith, closed, eqb-true (l.unreleased - l.window) 0 e))
      go false e = g

  settle_is : (ring : Ring) (store : List ℕ)
      → (held_items ring store (settle_empty l).lane ≡ held_items ring store l) × ((settle_empty l).lane.unreleased ≡ 0) × ((settle_empty l).lane.burst ≡ 0) × ((settle_empty l).lane.window ≡ 0)
      × ((settle_empty l).lane.pending ≡ 0) × ((settle_empty l).lane.queued ≡ 0) × ((settle_empty l).disconnected ≡ eqb l.living 0)
  unfolding held_items emptied
  settle_is ring store =
      settle_cases
      (λ f. (held_items ring store f.lane ≡ held_items ring store l) × (f.lane.unreleased ≡ 0) × (f.lane.burst ≡ 0) × (f.lane.window ≡ 0) × (f.lane.pending ≡ 0) × (f.lane.queued ≡ 0)
      × (f.disconnected ≡ eqb l.living 0))
      (λ z. (refl, omega (arith, closed, z), refl, refl, refl, refl, refl))
      (refl, refl, refl, refl, refl, refl, refl)

looked_living : (l : Lane) → (looked l).living ≡ l.living
unfolding reload
looked_living l = cond_holds (λ m. m.living ≡ l.living) (eqb (l.cached + l.window) 0) (prefetch (close_fast l)) (close_fast l) (λ e. refl) (λ e. refl)

module _ (ring : Ring) (small : ring.capacity ≤ 65536) (store : List ℕ) (l : Lane) (o : InOrder ring.capacity l) where
  -- a look that finds nothing at hand finds nothing held
  pub looked_empty : (looked l).cached ≡ 0 → held_items ring store l ≡ []
  unfolding held_items items
  looked_empty z =
      let e : distance l.tail l.head ≡ 0 = ap (λ (c : ℕ). distance c l.head) (found_empty ring.capacity small l o z) ∙ distance_self l.head o.cursors.head_u64 in
      rw e

  pub settled_idle : (looked l).cached ≡ 0 → FoundIdle ring store l (settle_empty (looked l))
  settled_idle z =
      let c = settle_is (looked l) (looked_counts l).2 ring store in
      record {
        holds_none = looked_empty z;
        same_ends = c.0 ∙ reload_holds ring store l;
        unreleased_none = c.1;
        burst_none = c.2;
        closed = c.3;
        idle = c.4;
        unqueued = c.5;
        dropped = c.6 ∙ ap (λ (n : ℕ). eqb n 0) (looked_living l);
      }

  pub poll_idle : (fair : Bool) (found : EmptyLane) → poll ring store fair l ≡ Err found → FoundIdle ring store l found
  unfolding poll poll_refilled refill ready_or_idle poll_item polled
  poll_idle fair found e = go (eqb (looked l).cached 0) refl e
    where
      go : (t : Bool) → eqb (looked l).cached 0 ≡ t → poll_refilled ring store fair (cond t (Err (settle_empty (looked l))) (Ok (looked l))) ≡ Err found
          → FoundIdle ring store l found
      go true s f = let same : settle_empty (looked l) ≡ found = cc in rw (← same) (settled_idle (eqb-true (looked l).cached 0 s))
      go false s f = let z : ◌≡◌ {A = ℕ} 0 1 = cc in absurd (omega arith)

-- ---- the lone lane's item of a fair receive: its turn starts anew

module _ (ring : Ring) (small : ring.capacity ≤ 65536) (store : List ℕ) (budget : ℕ) (l : Lane) (o : InOrder ring.capacity l) where
  fair_window_seen : unreleased_seen (fair_window ring.capacity budget l) ≡ unreleased_seen l
  unfolding fair_window
  fair_window_seen =
      cond_holds (λ m. unreleased_seen m ≡ unreleased_seen l) (eqb l.window 0) (grant_fast ring.capacity budget (end_burst true l)) l
      (λ e. (grant_seen ring.capacity budget (end_burst true l)).0) (λ e. refl)

  pub pop_fair_more : (item : ℕ) (m : Lane) → pop_lone ring store budget l ≡ Some (record { item = item; lane = m })
      → (unreleased_seen m ≡ unreleased_seen l + 1) × (burst_seen m ≡ 0) × (unreleased_seen l + 1 < release_batch ring.capacity)
  unfolding pop_lone fairly
  pop_fair_more item m e = go (pop_fast ring store (fair_window ring.capacity budget l)) refl e
    where
      none : (w : ℕ) → w - w ≡ 0
      none w = omega arith

      go : (p : Option Taken) → pop_fast ring store (fair_window ring.capacity budget l) ≡ p → fairly p ≡ Some (record { item = item; lane = m })
          → (unreleased_seen m ≡ unreleased_seen l + 1) × (burst_seen m ≡ 0) × (unreleased_seen l + 1 < release_batch ring.capacity)
      go (Some taken) s f =
          let given : ◌≡◌ {A = Taken} (record { item = taken.item; lane = burst_of_window taken.lane }) (record { item = item; lane = m }) = cc in
          let same : burst_of_window taken.lane ≡ m = ap (λ (x : Taken). x.lane) given in
          let more = pop_fast_more ring.capacity ring store (fair_window ring.capacity budget l) (fair_window_keeps ring small store l o budget) taken.item taken.lane s in (
            ap (λ (j : Lane). unreleased_seen j) (sym same) ∙ more.unreleased_more ∙ ap (λ (n : ℕ). n + 1) fair_window_seen,
            ap (λ (j : Lane). burst_seen j) (sym same) ∙ none taken.lane.window,
            rw (← fair_window_seen) more.below_batch,
          )
      go None s f = let z : ◌≡◌ {A = ℕ} 0 1 = cc in absurd (omega arith)
