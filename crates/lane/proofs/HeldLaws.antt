-- What a lane holds, as a list: a send appends to it, and every way of popping takes its first items, in order.
-- Assumes nothing.
use Rattle.std.specs.Prelude.{Option, Some, None, Result, Ok, Err}
use mathlib.Core.Path.{◌≡◌, refl, sym, ap, ap₂, ◌∙◌}
use mathlib.Core.Bool.{Bool, true, false, cond, ◌||◌}
use mathlib.Core.List.{List, [], ◌∷◌, ◌++◌}
use Prim.Native.Nat.{ℕ, ◌+◌, ◌-◌, ◌≤◌, ◌<◌, ◌^◌}
use native.Mathlib.Omega.{arith}
use borrow.Author.Tests.{ne_eqb, eqb-false}
use lib.Dec.{eqb}
use lib.ListN.{length, set}
use Rattle.yring.specs.Cursor.{after, distance}
use Rattle.yring.specs.Ring.{Within, index, item_at, items, push_item}
use Rattle.lane.specs.Lane.{held_items, advance, close_fast, prefetch, reload, window_pop, open_for, grant_fast, pop_fast, fair_window, burst_of_window, fairly, pop_lone, sent, push_and_flush_item, pop_targeted, targeted, charge, add_burst, end_burst, polled, poll_item, poll_refilled, poll, ready_or_idle, refill, settle_empty, chunk_limit, move_chunk}
use Rattle.lane.specs.Order.{Counts, InOrder, Filled, sent_lane}
use Rattle.yring.specs.declared.ring.Ring.{Ring}
use Rattle.lane.specs.declared.lane.Lane.{Lane}
use Rattle.lane.specs.declared.lane.Targeted.{Targeted}
use Rattle.yring.proofs.CursorLaws.{behind_after, ahead_after, after_distance}
use Rattle.lane.proofs.CursorOrder.{held_adds, span_adds}
use Rattle.yring.proofs.RingLaws.{push_appends, pop_takes_first, items_split}
use Rattle.lane.proofs.OrderLaws.{cond_holds, at_batch_is, fair_window_keeps, refill_fills, chunk_within}
use Rattle.lane.specs.declared.consumer.Taken.{Taken}
use Rattle.lane.specs.declared.lane.EmptyLane.{EmptyLane}
use Rattle.lane.specs.declared.lane.LanePoll.{LanePoll}

-- only the head and the tail tell what a lane holds
pub held_by_ends : (ring : Ring) (store : List ℕ) (l m : Lane) → l.head ≡ m.head → l.tail ≡ m.tail → held_items ring store l ≡ held_items ring store m
unfolding held_items
held_by_ends ring store l m h t = ap₂ (λ (a b : ℕ). items ring store a (distance b a)) h t

-- a look at the ring moves neither
pub reload_holds : (ring : Ring) (store : List ℕ) (l : Lane) → held_items ring store (reload (close_fast l)) ≡ held_items ring store l
unfolding reload held_items
reload_holds ring store l =
    cond_holds (λ m. held_items ring store m ≡ held_items ring store l) (eqb (l.cached + l.window) 0) (prefetch (close_fast l)) (close_fast l) (λ e. refl) (λ e. refl)

module _ (ring : Ring) (store : List ℕ) (l : Lane) (w : Within ring (length store)) (o : InOrder ring.capacity l) where
  abbrev n : ℕ
  n = distance l.tail l.head

  -- an item known of is an item held
  known_held : 0 < distance l.known l.head → 0 < distance l.tail l.head
  known_held h =
      more (distance l.tail l.known) (held_adds ring.capacity l.tail l.released l.head l.known w.power.most o.cursors) h
    where
      more : {a c : ℕ} (b : ℕ) → a ≡ b + c → 0 < c → 0 < a
      more b e f = omega arith

  -- the first item, and what is held once the head is past it
  pub first_held : 0 < distance l.known l.head → held_items ring store l ≡ item_at ring store l.head ∷ held_items ring store (advance 1 l)
  unfolding held_items
  first_held h =
      pop_takes_first ring w.power store l.head (distance l.tail l.head) (known_held h)
      ∙ ap (λ (m : ℕ). item_at ring store l.head ∷ items ring store (after l.head 1) m)
      (sym (ahead_after l.tail l.head 1 o.cursors.tail_u64 o.cursors.head_u64 (known_held h)))

  -- a plain receive's fast window
  pub pop_fast_takes_first : (item : ℕ) (m : Lane) → pop_fast ring store l ≡ Some (record { item = item; lane = m }) → held_items ring store l ≡ item ∷ held_items ring store m
  unfolding pop_fast held_items
  pop_fast_takes_first item m e = go (eqb l.window 0) refl e
    where
      some : {B d a c u b v : ℕ} → Counts B d a c u b v → (v ≡ 0 → ⊥) → 0 < a
      some k f = omega arith

      go : (t : Bool) → eqb l.window 0 ≡ t → cond {A = Option Taken} t None (Some (record { item = item_at ring store l.head; lane = window_pop l })) ≡ Some (record { item = item; lane = m })
          → held_items ring store l ≡ item ∷ held_items ring store m
      go true s f = let z : ◌≡◌ {A = ℕ} 0 1 = cc in absurd (omega arith)
      go false s f =
          let same : ◌≡◌ {A = Taken} (record { item = item_at ring store l.head; lane = window_pop l }) (record { item = item; lane = m }) = cc in
          let value : item_at ring store l.head ≡ item = ap (λ (x : Taken). x.item) same in
          let rest : window_pop l ≡ m = ap (λ (x : Taken). x.lane) same in
          rw (← value, ← rest) (first_held (some o.counts (eqb-false l.window 0 s)))

  -- a send that is not refused
  pub push_and_flush_appends : (item : ℕ) → (distance l.tail l.released ≡ ring.capacity → ⊥)
      → held_items ring (push_and_flush_item ring store item l).1 (sent_lane l (push_and_flush_item ring store item l).0) ≡ held_items ring store l ++ (item ∷ [])
  unfolding held_items push_and_flush_item sent push_item
  push_and_flush_appends item f =
      rw (ne_eqb (distance l.tail l.released) ring.capacity f)
      (ap (λ (m : ℕ). items ring (set store (index ring l.tail) item) l.head m) one_more
      ∙ ap (λ (c : ℕ). items ring (set store (index ring c) item) l.head (n + 1)) (sym (after_distance l.tail l.head o.cursors.tail_u64 o.cursors.head_u64))
      ∙ push_appends ring w.power store l.head n item room w.fits)
    where
      span : distance l.tail l.released ≡ distance l.tail l.head + distance l.head l.released
      span =
          span_adds ring.capacity l.tail l.released l.head l.known w.power.most o.cursors
          ∙ ap (λ (m : ℕ). m + distance l.head l.released) (sym (held_adds ring.capacity l.tail l.released l.head l.known w.power.most o.cursors))

      below : {a b C : ℕ} (c : ℕ) → a ≡ b + c → a ≤ C → (a ≡ C → ⊥) → b < C
      below c e g h = omega arith

      room : n < ring.capacity
      room = below (distance l.head l.released) span o.cursors.tail_within f

      small : {a C : ℕ} → a < C → C ≤ 65536 → a + 1 < 2 ^ 64
      small g h = omega arith

      one_more : distance (after l.tail 1) l.head ≡ n + 1
      one_more = behind_after l.tail l.head 1 o.cursors.tail_u64 o.cursors.head_u64 (small room w.power.most)

-- a fair receive through the window
module _ (ring : Ring) (store : List ℕ) (l : Lane) (w : Within ring (length store)) (o : InOrder ring.capacity l) (budget : ℕ) where
  fair_window_holds : held_items ring store (fair_window ring.capacity budget l) ≡ held_items ring store l
  unfolding fair_window grant_fast open_for held_items
  fair_window_holds =
      cond_holds (λ m. held_items ring store m ≡ held_items ring store l) (eqb l.window 0) (grant_fast ring.capacity budget (end_burst true l)) l
      (λ e. reload_holds ring store (end_burst true l)) (λ e. refl)

  pub pop_fair_takes_first : (item : ℕ) (m : Lane) → pop_lone ring store budget l ≡ Some (record { item = item; lane = m }) → held_items ring store l ≡ item ∷ held_items ring store m
  unfolding pop_lone fairly held_items
  pop_fair_takes_first item m e = go (pop_fast ring store (fair_window ring.capacity budget l)) refl e
    where
      go : (p : Option Taken) → pop_fast ring store (fair_window ring.capacity budget l) ≡ p → fairly p ≡ Some (record { item = item; lane = m }) → held_items ring store l ≡ item ∷ held_items ring store m
      go (Some taken) s f =
          let same : ◌≡◌ {A = Taken} (record { item = taken.item; lane = burst_of_window taken.lane }) (record { item = item; lane = m }) = cc in
          let value : taken.item ≡ item = ap (λ (x : Taken). x.item) same in
          let rest : burst_of_window taken.lane ≡ m = ap (λ (x : Taken). x.lane) same in
          rw (← value, ← rest)
          (sym fair_window_holds
          ∙ pop_fast_takes_first ring store (fair_window ring.capacity budget l) w (fair_window_keeps ring w.power.most store l o budget) taken.item taken.lane s)
      go None s f = let z : ◌≡◌ {A = ℕ} 0 1 = cc in absurd (omega arith)

-- the item that a counted pop gives
item_is : (ring : Ring) (store : List ℕ) (l : Lane) → (pop_targeted ring store l).item ≡ item_at ring store l.head
unfolding pop_targeted targeted
item_is ring store l = refl

-- a lane that is ready is the one that was looked at
pub refill_is : (l m : Lane) → refill l ≡ Ok m → reload (close_fast l) ≡ m
unfolding refill ready_or_idle
refill_is l m e = go (eqb (reload (close_fast l)).cached 0) e
  where
    go : (t : Bool) → cond t (Err (settle_empty (reload (close_fast l)))) (Ok (reload (close_fast l))) ≡ Ok m → reload (close_fast l) ≡ m
    go true f = let z : ◌≡◌ {A = ℕ} 0 1 = cc in absurd (omega arith)
    go false f = cc

-- a chunk is the first items of what is held, and the rest stays
module _ (ring : Ring) (store : List ℕ) (l : Lane) (w : Within ring (length store)) (f : Filled ring.capacity l) (take : ℕ) (h : take ≤ chunk_limit ring.capacity l) where
  chunk_held : take ≤ distance l.tail l.head
  chunk_held =
      most (distance l.tail l.known) f.order.counts (chunk_within ring.capacity w.power.most l f take h).0
      (held_adds ring.capacity l.tail l.released l.head l.known w.power.most f.order.cursors)
    where
      most : {B d a c u b v n : ℕ} (k : ℕ) → Counts B d a c u b v → take ≤ c → n ≡ k + a → take ≤ n
      most k p q e = omega arith

  pub move_chunk_takes_first : held_items ring store l ≡ items ring store l.head take ++ held_items ring store (move_chunk ring.capacity take l)
  unfolding move_chunk held_items
  move_chunk_takes_first =
      at_batch_is ring.capacity (add_burst take (charge take (advance take l)))
      (λ m. held_items ring store l ≡ items ring store l.head take ++ held_items ring store m) here here
    where
      split : take + (distance l.tail l.head - take) ≡ distance l.tail l.head
      split = rest chunk_held
        where
          rest : {m n : ℕ} → m ≤ n → m + (n - m) ≡ n
          rest p = omega arith

      here : held_items ring store l ≡ items ring store l.head take ++ held_items ring store (advance take l)
      here =
          ap (items ring store l.head) (sym split)
          ∙ items_split ring store l.head take (distance l.tail l.head - take)
          ∙ ap (λ (m : ℕ). items ring store l.head take ++ items ring store (after l.head take) m)
          (sym (ahead_after l.tail l.head take f.order.cursors.tail_u64 f.order.cursors.head_u64 chunk_held))

-- an item with full counting
module _ (ring : Ring) (store : List ℕ) (l : Lane) (w : Within ring (length store)) (f : Filled ring.capacity l) where
  pub pop_targeted_takes_first : held_items ring store l ≡ item_at ring store l.head ∷ held_items ring store (pop_targeted ring store l).lane
  unfolding pop_targeted targeted held_items
  pop_targeted_takes_first =
      at_batch_is ring.capacity (charge 1 (advance 1 l)) (λ m. held_items ring store l ≡ item_at ring store l.head ∷ held_items ring store m) here here
    where
      some : {B d a c u b v : ℕ} → Counts B d a c u b v → 0 < c → 0 < a
      some k g = omega arith

      here : held_items ring store l ≡ item_at ring store l.head ∷ held_items ring store (advance 1 l)
      here = first_held ring store l w f.order (some f.order.counts f.some)

  -- the turn counted at the front is nothing to what is held
  counted_holds : (t : Bool) (m : Lane) → held_items ring store (end_burst t (add_burst 1 m)) ≡ held_items ring store m
  unfolding held_items
  counted_holds true m = refl
  counted_holds false m = refl

  pub poll_item_takes_first : (fair : Bool) (item : ℕ) (rotate released : Bool) (m : Lane) → poll_item ring store fair l ≡ Ok (record { item = item; rotate = rotate; released = released; lane = m })
      → held_items ring store l ≡ item ∷ held_items ring store m
  unfolding poll_item polled
  poll_item_takes_first fair item rotate released m e =
      let t : Targeted = pop_targeted ring store l in
      let turned : Lane = end_burst (fair || eqb (t.lane.burst + 1) 64) (add_burst 1 t.lane) in
      let same : ◌≡◌ {A = LanePoll} (record { item = t.item; rotate = fair || eqb (t.lane.burst + 1) 64; released = t.released; lane = turned })
      (record { item = item; rotate = rotate; released = released; lane = m }) = cc in
      let value : t.item ≡ item = ap (λ (p : LanePoll). p.item) same in
      let rest : turned ≡ m = ap (λ (p : LanePoll). p.lane) same in
      pop_targeted_takes_first
      ∙ ap₂ ◌∷◌ (sym (item_is ring store l) ∙ value)
      (sym (counted_holds (fair || eqb (t.lane.burst + 1) 64) t.lane) ∙ ap (held_items ring store) rest)

-- a poll gives the first item, or finds that there is none
module _ (ring : Ring) (store : List ℕ) (l : Lane) (w : Within ring (length store)) (o : InOrder ring.capacity l) (fair : Bool) where
  pub poll_takes_first : (item : ℕ) (rotate released : Bool) (m : Lane) → poll ring store fair l ≡ Ok (record { item = item; rotate = rotate; released = released; lane = m }) → held_items ring store l ≡ item ∷ held_items ring store m
  unfolding poll poll_refilled
  poll_takes_first item rotate released m e = go (refill l) refl e
    where
      go : (r : Result Lane EmptyLane) → refill l ≡ r → poll_refilled ring store fair r ≡ Ok (record { item = item; rotate = rotate; released = released; lane = m }) → held_items ring store l ≡ item ∷ held_items ring store m
      go (Ok k) s f =
          sym (reload_holds ring store l) ∙ ap (held_items ring store) (refill_is l k s)
          ∙ poll_item_takes_first ring store k w (refill_fills ring.capacity w.power.most l o k s) fair item rotate released m f
      go (Err found) s f = let z : ◌≡◌ {A = ℕ} 0 1 = cc in absurd (omega arith)
