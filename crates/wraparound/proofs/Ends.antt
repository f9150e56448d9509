-- How far the ends of a ring are apart after each call of a lane: why the program's loops end, and how they leave the ring.
-- Assumes nothing.
use Rattle.std.specs.Prelude.{Option, Some, None, Result, Ok, Err}
use mathlib.Core.Path.{◌≡◌, refl, ◌∙◌, ap, sym}
use mathlib.Core.Bool.{Bool, true, false, cond}
use mathlib.Core.List.{List}
use Prim.Native.Nat.{ℕ, ◌+◌, ◌-◌, ◌^◌, ◌≤◌, ◌<◌, min}
use native.Mathlib.Omega.{arith}
use borrow.Author.Tests.{eqb-true, eqb-false}
use lib.Dec.{eqb}
use lib.ListN.{set}
use Rattle.model.specs.State.{release_batch}
use Rattle.yring.specs.Cursor.{after, distance}
use Rattle.yring.specs.Ring.{index, free_after, push_item}
use Rattle.lane.specs.Lane.{push_and_flush_item, sent, poll, poll_refilled, poll_item, polled, pop_targeted, targeted, refill, ready_or_idle, reload, prefetch, close_fast, settle_empty, emptied, settled, release_pending, release_any, release, release_at_batch, charge, advance, add_burst, end_burst, end_full_burst, chunk_limit, move_chunk}
use Rattle.lane.specs.Order.{Counts, InOrder, Filled, sent_lane, polled_lane, refilled_lane}
use Rattle.yring.specs.declared.ring.Ring.{Ring}
use Rattle.lane.specs.declared.lane.Lane.{Lane}
use Rattle.lane.specs.declared.lane.Released.{Released}
use Rattle.lane.specs.declared.lane.EmptyLane.{EmptyLane}
use Rattle.lane.specs.declared.producer.Sent.{Sent}
use Rattle.yring.proofs.CursorLaws.{behind_after, ahead_after}
use Rattle.lane.proofs.CursorOrder.{held_adds}
use Rattle.lane.proofs.OrderLaws.{closed_reload_keeps, reload_window, refill_fills, push_and_flush_keeps, poll_keeps, refill_keeps, move_chunk_keeps, chunk_within}

-- what a lane holds
abbrev pub held : Lane → ℕ
held l = distance l.tail l.head

-- what a lane's ring has room for
abbrev pub room : ℕ → Lane → ℕ
room C l = C - distance l.tail l.released

-- the same two ends
abbrev pub Still : Lane → Lane → Type 0
Still l m = (m.tail ≡ l.tail) × (m.head ≡ l.head)

-- what holds of both sides of a test holds
either : {A : Type 0} (P : A → Type 0) (t : Bool) (x y : A) → P x → P y → P (cond t x y)
either P true x y f g = f
either P false x y f g = g

-- A SEND

module _ (ring : Ring) (small : ring.capacity ≤ 65536) (store : List ℕ) (item : ℕ) (l : Lane) (o : InOrder ring.capacity l) (m : Lane) (after_store : List ℕ) where
  -- a send keeps the lane in order
  sent_keeps : (s : Option Sent) → (s, after_store) ≡ push_and_flush_item ring store item l → InOrder ring.capacity (sent_lane l s)
  sent_keeps s e = rw (ap (λ (p : Option Sent × List ℕ). p.0) e) (push_and_flush_keeps ring small store item l o)

  -- after a refused send the ring is full
  pub refused : (None, after_store) ≡ push_and_flush_item ring store item l → distance l.tail l.released ≡ ring.capacity
  unfolding push_and_flush_item sent push_item
  refused e = go (eqb (distance l.tail l.released) ring.capacity) refl e
    where
      go : (t : Bool) → eqb (distance l.tail l.released) ring.capacity ≡ t
          → (None, after_store) ≡ sent l (cond t (None, store) (Some (record { cursor = after l.tail 1; free = free_after ring l.tail l.released }), set store (index ring l.tail) item))
          → distance l.tail l.released ≡ ring.capacity
      go true s f = eqb-true (distance l.tail l.released) ring.capacity s
      go false s f =
          let g = ap (λ (p : Option Sent × List ℕ). p.0) f in
          let z : ◌≡◌ {A = ℕ} 0 1 = cc in absurd (omega arith)

  -- a send that is taken leaves less room
  pub taken : {free : ℕ} → (Some (record { lane = m; free = free }), after_store) ≡ push_and_flush_item ring store item l → InOrder ring.capacity m × (room ring.capacity m < room ring.capacity l)
  unfolding push_and_flush_item sent push_item
  taken {free} e = (sent_keeps (Some (record { lane = m; free = free })) e, go (eqb (distance l.tail l.released) ring.capacity) refl e)
    where
      less : (C a b : ℕ) → C ≤ 65536 → a ≤ C → (a ≡ C → ⊥) → b ≡ a + 1 → C - b < C - a
      less C a b h k n f = omega arith

      go : (t : Bool) → eqb (distance l.tail l.released) ring.capacity ≡ t
          → (Some (record { lane = m; free = free }), after_store) ≡ sent l (cond t (None, store) (Some (record { cursor = after l.tail 1; free = free_after ring l.tail l.released }), set store (index ring l.tail) item))
          → room ring.capacity m < room ring.capacity l
      go true s f =
          let g = ap (λ (p : Option Sent × List ℕ). p.0) f in
          let z : ◌≡◌ {A = ℕ} 0 1 = cc in absurd (omega arith)
      go false s f =
          let g = ap (λ (p : Option Sent × List ℕ). sent_lane l p.0) f in
          rw g
          (less ring.capacity (distance l.tail l.released) _ small o.cursors.tail_within (eqb-false (distance l.tail l.released) ring.capacity s)
          (behind_after l.tail l.released 1 o.cursors.tail_u64 o.cursors.released_u64 (short o.cursors.tail_within)))
        where
          short : {a : ℕ} → a ≤ ring.capacity → a + 1 < 2 ^ 64
          short h = omega arith

-- A LOOK

reload_still : (l : Lane) → Still l (reload l)
unfolding reload
reload_still l = either (Still l) (eqb l.cached 0) (prefetch l) l (refl, refl) (refl, refl)

settle_still : (l : Lane) → Still l (settle_empty l).lane
unfolding settle_empty emptied release_pending release_any
settle_still l =
    either (λ (r : Released). Still l (settled r.lane)) (eqb (close_fast l).unreleased 0)
    (record { lane = close_fast l; released = false }) (record { lane = release (close_fast l); released = true }) (refl, refl) (refl, refl)

-- a look that finds nothing knows the whole ring
found_nothing : (l : Lane) → (reload l).cached ≡ 0 → (reload l).known ≡ l.tail
unfolding reload
found_nothing l e = go (eqb l.cached 0) refl e
  where
    go : (t : Bool) → eqb l.cached 0 ≡ t → (cond t (prefetch l) l).cached ≡ 0 → (cond t (prefetch l) l).known ≡ l.tail
    go true s f = refl
    go false s f = absurd (eqb-false l.cached 0 s f)

module _ (C : ℕ) (small : C ≤ 65536) (l : Lane) (o : InOrder C l) where
  -- a lane found ready has the same ends
  pub ready_still : (m : Lane) → refill l ≡ Ok m → Still l m
  unfolding refill ready_or_idle
  ready_still m e = go (eqb n.cached 0) e
    where
      n : Lane
      n = reload (close_fast l)

      go : (t : Bool) → cond t (Err (settle_empty n)) (Ok n) ≡ Ok m → Still l m
      go true f = let z : ◌≡◌ {A = ℕ} 0 1 = cc in absurd (omega arith)
      go false f = let same : n ≡ m = cc in rw (← same) (reload_still (close_fast l))

  -- a lane found empty is empty
  pub idle_empty : (found : EmptyLane) → refill l ≡ Err found → InOrder C found.lane × (found.lane.head ≡ found.lane.tail)
  unfolding refill ready_or_idle
  idle_empty found e = (rw (ap refilled_lane e) at (refill_keeps C small l o), go (eqb n.cached 0) refl e)
    where
      n : Lane
      n = reload (close_fast l)

      k : InOrder C n
      k = closed_reload_keeps C small l o

      none : {B d m c u b w : ℕ} → Counts B d m c u b w → c ≡ 0 → w ≡ 0 → m ≡ 0
      none q f g = omega arith

      met : (a b : ℕ) → a < 2 ^ 64 → b < 2 ^ 64 → distance a b ≡ 0 → b ≡ a
      met a b h i f = omega arith

      go : (t : Bool) → eqb n.cached 0 ≡ t → cond t (Err (settle_empty n)) (Ok n) ≡ Err found → found.lane.head ≡ found.lane.tail
      go true s f =
          let same : settle_empty n ≡ found = cc in
          let z : n.cached ≡ 0 = eqb-true n.cached 0 s in
          let h : n.head ≡ n.known = met n.known n.head k.cursors.known_u64 k.cursors.head_u64 (none k.counts z (reload_window (close_fast l))) in
          let t : n.known ≡ n.tail = found_nothing (close_fast l) z ∙ sym (reload_still (close_fast l)).0 in
          rw (← same) ((settle_still n).1 ∙ h ∙ t ∙ sym (settle_still n).0)
      go false s f = let z : ◌≡◌ {A = ℕ} 0 1 = cc in absurd (omega arith)

-- ITEMS TAKEN

at_batch_still : (C : ℕ) (l : Lane) → Still l (release_at_batch C l).lane
unfolding release_at_batch
at_batch_still C l =
    either (λ (r : Released). Still l r.lane) (eqb l.unreleased (release_batch C))
    (record { lane = release l; released = true }) (record { lane = l; released = false }) (refl, refl) (refl, refl)

end_burst_still : (t : Bool) (l : Lane) → Still l (end_burst t l)
end_burst_still true l = (refl, refl)
end_burst_still false l = (refl, refl)

-- a head that goes on by items known of leaves fewer
on_less : (C : ℕ) (l m : Lane) (n : ℕ) → C ≤ 65536 → InOrder C l → 0 < n → n ≤ distance l.known l.head → m.tail ≡ l.tail → m.head ≡ after l.head n → held m < held l
on_less C l m n small o some h t e =
    let all : held l ≡ distance l.tail l.known + distance l.known l.head = held_adds C l.tail l.released l.head l.known small o.cursors in
    let f : n ≤ held l = within (distance l.tail l.known) all h in
    rw (t, e, ahead_after l.tail l.head n o.cursors.tail_u64 o.cursors.head_u64 f) (fewer some f)
  where
    within : {a c k : ℕ} (b : ℕ) → a ≡ b + c → k ≤ c → k ≤ a
    within b p q = omega arith

    fewer : {a k : ℕ} → 0 < k → k ≤ a → a - k < a
    fewer p q = omega arith

-- what is cached is known of
cached_ahead : {B d m c u b w : ℕ} → Counts B d m c u b w → (n : ℕ) → n ≤ c → n ≤ m
cached_ahead q n h = omega arith

module _ (ring : Ring) (small : ring.capacity ≤ 65536) (store : List ℕ) (l : Lane) (f : Filled ring.capacity l) where
  item_less : (m : Lane) (item : ℕ) (rotate credit : Bool) → poll_item ring store false l ≡ Ok (record { item = item; rotate = rotate; released = credit; lane = m }) → held m < held l
  unfolding poll_item polled pop_targeted targeted
  item_less m item rotate credit e =
      let x : Lane = charge 1 (advance 1 l) in
      let y : Lane = add_burst 1 (release_at_batch ring.capacity x).lane in
      let ends : Bool = eqb y.burst 64 in
      let same : end_burst ends y ≡ m = ap polled_lane e in
      let a : Still x y = at_batch_still ring.capacity x in
      let b : Still y (end_burst ends y) = end_burst_still ends y in
      on_less ring.capacity l m 1 small f.order (omega arith) (cached_ahead f.order.counts 1 f.some)
      (ap (λ (n : Lane). n.tail) (sym same) ∙ b.0 ∙ a.0) (ap (λ (n : Lane). n.head) (sym same) ∙ b.1 ∙ a.1)

  -- a chunk takes some
  chunk_some : 0 < chunk_limit ring.capacity l
  unfolding chunk_limit
  chunk_some = go f.order.counts f.some
    where
      go : {B d m c u b w : ℕ} → Counts B d m c u b w → 0 < c → 0 < min (min c (64 - b)) (B - u)
      go q h = omega arith

  chunk_less : held (end_full_burst (move_chunk ring.capacity (chunk_limit ring.capacity l) l)).lane < held l
  unfolding move_chunk end_full_burst
  chunk_less =
      let take : ℕ = chunk_limit ring.capacity l in
      let x : Lane = add_burst take (charge take (advance take l)) in
      let y : Lane = (release_at_batch ring.capacity x).lane in
      let a : Still x y = at_batch_still ring.capacity x in
      let b : Still y (end_burst (eqb y.burst 64) y) = end_burst_still (eqb y.burst 64) y in
      on_less ring.capacity l (end_burst (eqb y.burst 64) y) take small f.order chunk_some
      (cached_ahead f.order.counts take (chunk_within ring.capacity small l f take (omega arith)).0) (b.0 ∙ a.0) (b.1 ∙ a.1)

  -- a chunk taken leaves fewer
  pub chunk_taken : (take : ℕ) (moved m : Lane) → take ≡ chunk_limit ring.capacity l → moved ≡ move_chunk ring.capacity take l
      → m ≡ (end_full_burst moved).lane → InOrder ring.capacity m × (held m < held l)
  chunk_taken take moved m t e g =
      let limit : ℕ = chunk_limit ring.capacity l in
      let q : m ≡ (end_full_burst (move_chunk ring.capacity limit l)).lane = g ∙ ap (λ (n : Lane). (end_full_burst n).lane) (e ∙ ap (λ (n : ℕ). move_chunk ring.capacity n l) t) in
      rw q (move_chunk_keeps ring.capacity small l f limit (omega arith), chunk_less)

module _ (ring : Ring) (small : ring.capacity ≤ 65536) (store : List ℕ) (l : Lane) (o : InOrder ring.capacity l) where
  -- a receive that hands out an item leaves fewer
  pub polled_less : (m : Lane) (item : ℕ) (rotate credit : Bool) → poll ring store false l ≡ Ok (record { item = item; rotate = rotate; released = credit; lane = m }) → InOrder ring.capacity m × (held m < held l)
  unfolding poll poll_refilled
  polled_less m item rotate credit e = (rw (ap polled_lane e) at (poll_keeps ring small store l o false), go (refill l) refl e)
    where
      go : (r : Result Lane EmptyLane) → refill l ≡ r → poll_refilled ring store false r ≡ Ok (record { item = item; rotate = rotate; released = credit; lane = m }) → held m < held l
      go (Ok n) s f =
          let k : Still l n = ready_still ring.capacity small l o n s in
          rw (← k.0, ← k.1) (item_less ring small store n (refill_fills ring.capacity small l o n s) m item rotate credit f)
      go (Err found) s f = let z : ◌≡◌ {A = ℕ} 0 1 = cc in absurd (omega arith)

  -- a receive that hands out nothing leaves the lane empty
  pub polled_empty : (found : EmptyLane) → poll ring store false l ≡ Err found → InOrder ring.capacity found.lane × (found.lane.head ≡ found.lane.tail)
  unfolding poll poll_refilled poll_item polled
  polled_empty found e = (rw (ap polled_lane e) at (poll_keeps ring small store l o false), go (refill l) refl e)
    where
      go : (r : Result Lane EmptyLane) → refill l ≡ r → poll_refilled ring store false r ≡ Err found → found.lane.head ≡ found.lane.tail
      go (Ok n) s f = let z : ◌≡◌ {A = ℕ} 0 1 = cc in absurd (omega arith)
      go (Err g) s f =
          let same : g ≡ found = cc in
          rw (← same) (idle_empty ring.capacity small l o g s).1
