-- Each store of a word-level definition, as the rules' state sees it: one change of the state for each.
-- Assumes nothing.
use mathlib.Core.Path.{◌≡◌, refl, sym, ap, ap₂, ◌∙◌}
use mathlib.Core.Logic.{◌≢◌}
use mathlib.Core.Bool.{Bool, true, false, cond, not}
use mathlib.Core.List.{List, [], ◌∷◌, ◌++◌}
use Prim.Native.Nat.{ℕ, ◌-◌, ◌/◌, ◌<◌}
use native.Mathlib.Omega.{arith}
use borrow.Author.Tests.{lt-ltb, ltb-true, eq-eqb, ne_eqb}
use lib.Dec.{eqb, ltb}
use lib.ListN.{length, set}
use Rattle.model.specs.declared.OpenedChannel.{OpenedChannel}
use Rattle.model.specs.Lists as rules
use Rattle.model.specs.Lists.{if}
use Rattle.model.specs.State.{Slot, State, vacant}
use Rattle.model.specs.Changes.{with_queue, with_free, with_budget, with_cursor, with_open, put, with_flags, with_signal, with_ring}
use Rattle.demands.proofs.Counting.{Same, equal, other, same?}
use Rattle.demands.proofs.Simulation.{state_path}
use Rattle.model.specs.declared.LaneKey.{LaneKey}
use Rattle.lane.specs.declared.lane.Lane.{Lane}
use Rattle.yring.specs.Cursor.{distance}
use Rattle.yring.specs.Ring.{new_ring, index, Within, push_item}
use Rattle.lane.specs.Lane.{held_items, push_and_flush_item, sent}
use Rattle.lane.specs.Order.{InOrder, sent_lane}
use Rattle.lane.specs.Table.{HasRow, set_head, header_words, NarrowLane, lane_at, put_lane}
use Rattle.lane.proofs.TableLaws.{frames, lane_own_narrow, loaded_narrow, other_lane_kept, slot_of_lane, has_row}
use Rattle.yring.proofs.RingLaws.{other_ring_kept}
use Rattle.lane.proofs.HeldLaws.{held_by_ends, push_and_flush_appends}
use Rattle.queues.specs.Header.{Shaped, issued, slots, budget, group_cursor, alive, capacity, channel, first_generation, free_count, queue_count, set_budget, set_group_cursor, set_alive, set_fast_slot, set_lane_count, set_living_count, set_held_count}
use Rattle.queues.specs.Queue as words
use Rattle.queues.specs.Queue.{queue_of, push_back, pop_front, rotate_left, remove}
use Rattle.queues.specs.Registry.{free_of, free, reissue}
use Rattle.ready.specs.Ready.{page_bit, mark, queued_lane, enqueue}
use Rattle.queues.proofs.QueueLaws.{queue_frames, header_in, queue_pushed_back, queue_popped_front, queue_rotated, queue_removed, shaped_put_lane}
use Rattle.queues.proofs.RegistryLaws.{registry_frames, free_freed}
use Rattle.ready.proofs.MarkLaws.{head_marked, lane_marked, queue_marked, free_marked, own_bit_marked, other_bit_marked}
use Rattle.store.specs.View.{flag, slot_of, slot_at, view}

-- ---- what the view reads

-- a slot that is issued
pub slot_in : (t r : List ℕ) (x : ℕ) → x < issued t → (view t r).slot_of x ≡ slot_at t r x
unfolding view
slot_in t r x h = rw (lt-ltb x (issued t) h)

-- and one that is not
pub slot_out : (t r : List ℕ) (x : ℕ) → ltb x (issued t) ≡ false → (view t r).slot_of x ≡ vacant
unfolding view
slot_out t r x h = rw h

-- the header words that the view reads
abbrev pub Heads : Type 0
Heads = ℕ × ℕ × ℕ × ℕ × ℕ × ℕ × OpenedChannel × ℕ

abbrev pub heads_of : List ℕ → Heads
heads_of t = (issued t, slots t, budget t, group_cursor t, alive t, capacity t, channel t, first_generation t)

-- a row of an issued slot, and of its page
pub row_in : (t : List ℕ) → Shaped t → (x : ℕ) → x < issued t → HasRow x (length t)
row_in t s x h = omega (arith, s.issued_most, s.room)

pub page_row_in : (t : List ℕ) → Shaped t → (x : ℕ) → x < issued t → HasRow (x / 64) (length t)
page_row_in t s x h = omega (arith, s.issued_most, s.room)

module _ (t u r q : List ℕ) where
  -- no slot changes
  pub slots_same : issued u ≡ issued t → ((y : ℕ) → slot_at u q y ≡ slot_at t r y) → (y : ℕ) → (view u q).slot_of y ≡ (view t r).slot_of y
  unfolding view
  slots_same e h y = rw (e, h y)

  -- one slot changes
  module _ (x : ℕ) (l : Slot) (h : x < issued t) (own : slot_at u q x ≡ l) (others : (y : ℕ) → x ≢ y → slot_at u q y ≡ slot_at t r y) where
    slots_put : issued u ≡ issued t → (y : ℕ) → (view u q).slot_of y ≡ (put x l (view t r)).slot_of y
    unfolding view
    slots_put e y = rw e (go (same? x y))
      where
        go : Same x y → if (ltb y (issued t)) (slot_at u q y) vacant ≡ if (eqb x y) l (if (ltb y (issued t)) (slot_at t r y) vacant)
        go (equal p b i) = rw (b, ← p, lt-ltb x (issued t) h) own
        go (other n b i) = rw (b, others y n)

    -- and nothing else that the view reads
    pub view_by : heads_of u ≡ heads_of t → queue_of u ≡ queue_of t → free_of u ≡ free_of t → view u q ≡ put x l (view t r)
    unfolding view
    view_by e a b =
        state_path _ _ (slots_put (ap (λ (z : Heads). z.0) e)) a b (ap (λ (z : Heads). z.0) e) (ap (λ (z : Heads). z.2) e) (ap (λ (z : Heads). z.3) e)
        (ap (λ (z : Heads). flag z.4) e) (ap (λ (z : Heads). z.5) e) (ap (λ (z : Heads). z.1) e) (ap (λ (z : Heads). z.6) e) (ap (λ (z : Heads). z.7) e)

  module _ (slot : (y : ℕ) → slot_at u q y ≡ slot_at t r y) (e : heads_of u ≡ heads_of t) where
    -- the queue and the free list change, and nothing else
    pub view_lists : (w f : List ℕ) → queue_of u ≡ w → free_of u ≡ f → view u q ≡ with_queue w (with_free f (view t r))
    unfolding view
    view_lists w f a b =
        state_path _ _ (slots_same (ap (λ (z : Heads). z.0) e) slot) a b (ap (λ (z : Heads). z.0) e) (ap (λ (z : Heads). z.2) e) (ap (λ (z : Heads). z.3) e)
        (ap (λ (z : Heads). flag z.4) e) (ap (λ (z : Heads). z.5) e) (ap (λ (z : Heads). z.1) e) (ap (λ (z : Heads). z.6) e) (ap (λ (z : Heads). z.7) e)

    pub view_queue : (w : List ℕ) → queue_of u ≡ w → free_of u ≡ free_of t → view u q ≡ with_queue w (view t r)
    unfolding view
    view_queue w a b = view_lists w (free_of t) a b

    pub view_free : (f : List ℕ) → queue_of u ≡ queue_of t → free_of u ≡ f → view u q ≡ with_free f (view t r)
    unfolding view
    view_free f a b = view_lists (queue_of t) f a b

-- ---- puts, one after the other

pub put_put : (x : ℕ) (a b : Slot) (s : State) → put x a (put x b s) ≡ put x a s
put_put x a b s = state_path _ _ (λ y. go y (same? x y)) refl refl refl refl refl refl refl refl refl refl
  where
    go : (y : ℕ) → Same x y → if (eqb x y) a (if (eqb x y) b (s.slot_of y)) ≡ if (eqb x y) a (s.slot_of y)
    go y (equal p e i) = rw e
    go y (other n e i) = rw e

pub put_same : (x : ℕ) (s : State) → put x (s.slot_of x) s ≡ s
put_same x s = state_path _ _ (λ y. go y (same? x y)) refl refl refl refl refl refl refl refl refl refl
  where
    go : (y : ℕ) → Same x y → if (eqb x y) (s.slot_of x) (s.slot_of y) ≡ s.slot_of y
    go y (equal p e i) = rw e (ap s.slot_of p)
    go y (other n e i) = rw e

-- the slot that was put
pub put_own : (x : ℕ) (a : Slot) (s : State) → (put x a s).slot_of x ≡ a
put_own x a s = rw (eq-eqb x x refl)

-- ---- a lane stored

page_put_lane : (t : List ℕ) (l : Lane) (y : ℕ) → page_bit (put_lane t l) y ≡ page_bit t y
page_put_lane t l y = simp frames

heads_put_lane : (t : List ℕ) (l : Lane) → heads_of (put_lane t l) ≡ heads_of t
heads_put_lane t l = simp frames

capacity_put_lane : (t : List ℕ) (l : Lane) → capacity (put_lane t l) ≡ capacity t
capacity_put_lane t l = simp frames

module _ (t : List ℕ) (s : Shaped t) (l : Lane) (x : ℕ) (at : l.key.slot ≡ x) (a : NarrowLane l) (h : x < issued t) where
  -- the slot as the rules see it, whatever the ring store
  own_put_lane : (r : List ℕ) → slot_at (put_lane t l) r x ≡ slot_of l (page_bit t x) (held_items (new_ring x (capacity t)) r l)
  unfolding slot_at
  own_put_lane r = rw (lane_own_narrow t l x at (has_row t x (row_in t s x h)) a, page_put_lane t l x, capacity_put_lane t l)

  other_put_lane : (r : List ℕ) (y : ℕ) → x ≢ y → slot_at (put_lane t l) r y ≡ slot_at t r y
  unfolding slot_at
  other_put_lane r y n = rw (other_lane_kept t l y (λ e. n (sym (e ∙ at))), page_put_lane t l y, capacity_put_lane t l)

  -- a lane stored, with any change of its own ring: the other slots' rings are as they were
  pub view_put_ring : (r q : List ℕ) → ((y : ℕ) → x ≢ y → slot_at t q y ≡ slot_at t r y)
      → view (put_lane t l) q ≡ put x (slot_of l (page_bit t x) (held_items (new_ring x (capacity t)) q l)) (view t r)
  view_put_ring r q others =
      view_by t (put_lane t l) r q x _ h (own_put_lane q) (λ y n. other_put_lane q y n ∙ others y n) (heads_put_lane t l) (simp queue_frames) (simp registry_frames)

  -- a lane stored
  pub view_put_lane : (r : List ℕ) → view (put_lane t l) r ≡ put x (slot_of l (page_bit t x) (held_items (new_ring x (capacity t)) r l)) (view t r)
  view_put_lane r = view_put_ring r r (λ y n. refl)

-- a lane stored with its own ring's item at the tail: what a send that is not refused leaves
module _ (t r : List ℕ) (s : Shaped t) (x : ℕ) (h : x < issued t) (w : Within (new_ring x (capacity t)) (length r)) where
  other_ring : (y c v : ℕ) → x ≢ y → slot_at t (set r (index (new_ring x (capacity t)) c) v) y ≡ slot_at t r y
  unfolding slot_at held_items
  other_ring y c v n =
      let l : Lane = lane_at t y in
      rw (other_ring_kept (capacity t) w.power r y x l.head c (distance l.tail l.head) v (λ e. n (sym e)))

  -- whether the ring store changes or not
  others_sent : (v y : ℕ) (l : Lane) → x ≢ y → slot_at t (push_and_flush_item (new_ring x (capacity t)) r v l).1 y ≡ slot_at t r y
  unfolding push_and_flush_item sent push_item
  others_sent v y l n = go (eqb (distance l.tail l.released) (capacity t)) refl
    where
      go : (b : Bool) → eqb (distance l.tail l.released) (capacity t) ≡ b → slot_at t (push_and_flush_item (new_ring x (capacity t)) r v l).1 y ≡ slot_at t r y
      go true e = rw e
      go false e = rw e (other_ring y l.tail v n)

  module _ (v : ℕ) (o : InOrder (capacity t) (lane_at t x)) (f : distance (lane_at t x).tail (lane_at t x).released ≢ capacity t) where
    abbrev after : Lane
    after = sent_lane (lane_at t x) (push_and_flush_item (new_ring x (capacity t)) r v (lane_at t x)).0

    -- the lane m stored has the key of the lane before and the ends of the lane after the push
    pub view_sent : (m : Lane) → m.key.slot ≡ x → NarrowLane m → m.head ≡ after.head → m.tail ≡ after.tail
        → view (put_lane t m) (push_and_flush_item (new_ring x (capacity t)) r v (lane_at t x)).1
        ≡ put x (slot_of m (page_bit t x) (held_items (new_ring x (capacity t)) r (lane_at t x) ++ (v ∷ []))) (view t r)
    view_sent m k n' a b =
        let q : List ℕ = (push_and_flush_item (new_ring x (capacity t)) r v (lane_at t x)).1 in
        view_put_ring t s m x k n' h r q (λ y n. others_sent v y (lane_at t x) n)
        ∙ ap (λ (vs : List ℕ). put x (slot_of m (page_bit t x) vs) (view t r))
        (held_by_ends (new_ring x (capacity t)) q m after a b ∙ push_and_flush_appends (new_ring x (capacity t)) r (lane_at t x) w o v f)

-- ---- a lane stored that differs from the slot's lane in part

module _ (t r : List ℕ) (s : Shaped t) (x : ℕ) (h : x < issued t) (l : Lane) (key : l.key ≡ (lane_at t x).key) (fits : NarrowLane l) (at : l.head ≡ (lane_at t x).head) (to : l.tail ≡ (lane_at t x).tail) where
  own_slot : l.key.slot ≡ x
  own_slot = ap (λ (k : LaneKey). k.slot) key ∙ slot_of_lane t x

  abbrev old : Slot
  old = (view t r).slot_of x

  abbrev slot_by : ℕ → List ℕ → Slot
  slot_by g vs =
      record {
        registered = flag l.registered;
        living = flag l.living;
        paused = flag l.paused;
        pending = flag l.pending;
        marked = flag (page_bit t x);
        generation = g;
        ring = vs;
        unreleased = l.unreleased - l.window;
        burst = l.burst - l.window;
      }

  -- its ends and its key are as they were: all else may change
  pub view_put_same_ends : view (put_lane t l) r
      ≡ put x (with_flags (flag l.registered) (flag l.living) (flag l.paused) (with_signal (flag l.pending) old.marked (with_ring old.ring (l.unreleased - l.window) (l.burst - l.window) old)))
      (view t r)
  unfolding slot_at
  view_put_same_ends =
      view_put_lane t s l x own_slot fits h r
      ∙ ap₂ (λ (g : ℕ) (vs : List ℕ). put x (slot_by g vs) (view t r)) (ap (λ (k : LaneKey). k.generation) key) (held_by_ends (new_ring x (capacity t)) r l (lane_at t x) at to)
      ∙ rw (slot_in t r x h)

  -- only flags change
  pub view_put_flags : l.unreleased - l.window ≡ (lane_at t x).unreleased - (lane_at t x).window → l.burst - l.window ≡ (lane_at t x).burst - (lane_at t x).window
      → view (put_lane t l) r ≡ put x (with_flags (flag l.registered) (flag l.living) (flag l.paused) (with_signal (flag l.pending) old.marked old)) (view t r)
  unfolding slot_at
  view_put_flags u b = view_put_same_ends ∙ rw (slot_in t r x h, u, b)

  -- only counts change, or the queued word
  pub view_put_counts : l.registered ≡ (lane_at t x).registered → l.living ≡ (lane_at t x).living → l.paused ≡ (lane_at t x).paused → l.pending ≡ (lane_at t x).pending
      → view (put_lane t l) r ≡ put x (with_ring old.ring (l.unreleased - l.window) (l.burst - l.window) old) (view t r)
  unfolding slot_at
  view_put_counts a b c d = view_put_same_ends ∙ rw (slot_in t r x h, a, b, c, d)

-- a lane stored whose flags are as they were and that holds the items vs: items were taken, or counts changed
pub view_put_holding : (t r : List ℕ) → Shaped t → (x : ℕ) → x < issued t → (l : Lane) → l.key ≡ (lane_at t x).key → NarrowLane l → (vs : List ℕ) → held_items (new_ring x (capacity t)) r l ≡ vs
    → l.registered ≡ (lane_at t x).registered → l.living ≡ (lane_at t x).living → l.paused ≡ (lane_at t x).paused → l.pending ≡ (lane_at t x).pending
    → view (put_lane t l) r ≡ put x (with_ring vs (l.unreleased - l.window) (l.burst - l.window) ((view t r).slot_of x)) (view t r)
unfolding slot_at
view_put_holding t r s x h l key fits vs e a b c d =
    view_put_lane t s l x (ap (λ (k : LaneKey). k.slot) key ∙ slot_of_lane t x) fits h r
    ∙ ap (λ (m : Slot). put x m (view t r))
    (ap₂ (λ (g : ℕ) (ws : List ℕ). by l.registered l.living l.paused l.pending g ws) (ap (λ (k : LaneKey). k.generation) key) e
    ∙ ap₂ (λ (i j : ℕ). by i j l.paused l.pending (lane_at t x).key.generation vs) a b
    ∙ ap₂ (λ (i j : ℕ). by (lane_at t x).registered (lane_at t x).living i j (lane_at t x).key.generation vs) c d
    ∙ rw (slot_in t r x h))
  where
    by : ℕ → ℕ → ℕ → ℕ → ℕ → List ℕ → Slot
    by registered living paused pending g ws =
        record {
          registered = flag registered;
          living = flag living;
          paused = flag paused;
          pending = flag pending;
          marked = flag (page_bit t x);
          generation = g;
          ring = ws;
          unreleased = l.unreleased - l.window;
          burst = l.burst - l.window;
        }

-- the queued word alone is not seen
pub view_put_queued : (t r : List ℕ) → Shaped t → (x : ℕ) → x < issued t → view (put_lane t (queued_lane (lane_at t x))) r ≡ view t r
unfolding slot_at
view_put_queued t r s x h =
    view_put_counts t r s x h (queued_lane (lane_at t x)) refl (loaded_narrow t x) refl refl refl refl refl refl
    ∙ ap (λ (m : Slot). put x m (view t r)) (rw (slot_in t r x h)) ∙ put_same x (view t r)

-- ---- a mark

module _ (t r : List ℕ) (s : Shaped t) (x : ℕ) (h : x < issued t) where
  own_marked : slot_at (mark t x) r x ≡ with_signal (slot_at t r x).pending true (slot_at t r x)
  unfolding slot_at
  own_marked = rw (lane_marked t x x, own_bit_marked t x (page_row_in t s x h), head_marked t x 8 refl)

  other_marked : (y : ℕ) → x ≢ y → slot_at (mark t x) r y ≡ slot_at t r y
  unfolding slot_at
  other_marked y n = rw (lane_marked t x y, other_bit_marked t x (page_row_in t s x h) y (λ e. n (sym e)), head_marked t x 8 refl)

  heads_marked : heads_of (mark t x) ≡ heads_of t
  heads_marked = simp head_marked

  -- the slot's page bit is set
  pub view_marked : view (mark t x) r ≡ put x (with_signal ((view t r).slot_of x).pending true ((view t r).slot_of x)) (view t r)
  view_marked =
      view_by t (mark t x) r r x _ h (own_marked ∙ rw (slot_in t r x h)) other_marked heads_marked (queue_marked t x) (free_marked t x)

-- ---- the queue

pub without_alike : (x : ℕ) (q : List ℕ) → words.without x q ≡ rules.without x q
unfolding rules.without rules.keep
without_alike x [] = refl
without_alike x (y ∷ q) = go (same? x y) (without_alike x q)
  where
    go : Same x y → words.without x q ≡ rules.without x q → cond (eqb y x) (words.without x q) (y ∷ words.without x q) ≡ if (not (eqb x y)) (y ∷ rules.without x q) (rules.without x q)
    go (equal p e i) h = rw (e, eq-eqb y x (sym p)) h
    go (other n e i) h = rw (e, ne_eqb y x (λ q. n (sym q))) (ap (λ (l : List ℕ). y ∷ l) h)

module _ (t r : List ℕ) (s : Shaped t) where
  slot_pushed_back : (x y : ℕ) → slot_at (push_back t x) r y ≡ slot_at t r y
  unfolding slot_at
  slot_pushed_back x y = simp queue_frames

  -- a slot at the back
  pub view_pushed_back : (x : ℕ) → queue_count t < slots t → view (push_back t x) r ≡ with_queue ((view t r).queue ++ (x ∷ [])) (view t r)
  unfolding view
  view_pushed_back x h = view_queue t (push_back t x) r r (slot_pushed_back x) (simp queue_frames) _ (queue_pushed_back t s x h) (simp registry_frames)

  slot_popped_front : (y : ℕ) → slot_at (pop_front t) r y ≡ slot_at t r y
  unfolding slot_at
  slot_popped_front y = simp queue_frames

  slot_rotated : (y : ℕ) → slot_at (rotate_left t) r y ≡ slot_at t r y
  unfolding slot_at
  slot_rotated y = simp queue_frames

  module _ (x : ℕ) (q : List ℕ) (e : (view t r).queue ≡ x ∷ q) where
    -- the front gone
    pub view_popped_front : view (pop_front t) r ≡ with_queue q (view t r)
    unfolding view
    view_popped_front = view_queue t (pop_front t) r r slot_popped_front (simp queue_frames) q (queue_popped_front t s x q e) (simp registry_frames)

    -- the front at the back
    pub view_rotated : view (rotate_left t) r ≡ with_queue (q ++ (x ∷ [])) (view t r)
    unfolding view
    view_rotated = view_queue t (rotate_left t) r r slot_rotated (simp queue_frames) (q ++ (x ∷ [])) (queue_rotated t s x q e) (simp registry_frames)

  slot_removed : (x y : ℕ) → slot_at (remove t x) r y ≡ slot_at t r y
  unfolding slot_at
  slot_removed x y = simp queue_frames

  -- a slot out of the queue
  pub view_removed : (x : ℕ) → view (remove t x) r ≡ with_queue (rules.without x (view t r).queue) (view t r)
  unfolding view
  view_removed x = view_queue t (remove t x) r r (slot_removed x) (simp queue_frames) _ (queue_removed t s x ∙ without_alike x (queue_of t)) (simp registry_frames)

-- a lane goes to the back of the queue
pub view_enqueued : (t r : List ℕ) → Shaped t → (x : ℕ) → x < issued t → queue_count t < slots t → view (enqueue t x) r ≡ with_queue ((view t r).queue ++ (x ∷ [])) (view t r)
unfolding enqueue
view_enqueued t r s x h room =
    view_pushed_back (put_lane t (queued_lane (lane_at t x))) r (shaped_put_lane t s _) x (simp frames room)
    ∙ ap (λ (u : State). with_queue (u.queue ++ (x ∷ [])) u) (view_put_queued t r s x h)

-- ---- the free list

module _ (t r : List ℕ) (s : Shaped t) where
  slot_freed : (x y : ℕ) → slot_at (free t x) r y ≡ slot_at t r y
  unfolding slot_at
  slot_freed x y = simp registry_frames

  -- a slot free again
  pub view_freed : (x : ℕ) → free_count t < slots t → view (free t x) r ≡ with_free (x ∷ (view t r).free) (view t r)
  unfolding view
  view_freed x h = view_free t (free t x) r r (slot_freed x) (simp registry_frames) _ (simp registry_frames) (free_freed t s x h)

  slot_reissued : (d y : ℕ) → slot_at (reissue t d) r y ≡ slot_at t r y
  unfolding slot_at
  slot_reissued d y = simp registry_frames

  -- the slot d places down issued again
  pub view_reissued : (d : ℕ) {f : List ℕ} → free_of (reissue t d) ≡ f → view (reissue t d) r ≡ with_free f (view t r)
  unfolding view
  view_reissued d {f} e = view_free t (reissue t d) r r (slot_reissued d) (simp registry_frames) f (simp registry_frames) e

-- ---- header words

module _ (t r : List ℕ) (s : Shaped t) where
  pub view_budget : (b : ℕ) → view (set_budget t b) r ≡ with_budget b (view t r)
  unfolding view slot_at
  view_budget b = state_path _ _ (λ y. simp frames) (simp queue_frames) (simp registry_frames) (simp frames) (simp (frames, header_in t s)) (simp frames) (simp frames) (simp frames) (simp frames) (simp frames) (simp frames)

  pub view_cursor : (c : ℕ) → view (set_group_cursor t c) r ≡ with_cursor c (view t r)
  unfolding view slot_at
  view_cursor c = state_path _ _ (λ y. simp frames) (simp queue_frames) (simp registry_frames) (simp frames) (simp frames) (simp (frames, header_in t s)) (simp frames) (simp frames) (simp frames) (simp frames) (simp frames)

  pub view_alive : (a : ℕ) → view (set_alive t a) r ≡ with_open (flag a) (view t r)
  unfolding view slot_at
  view_alive a = state_path _ _ (λ y. simp frames) (simp queue_frames) (simp registry_frames) (simp frames) (simp frames) (simp frames) (simp (frames, header_in t s)) (simp frames) (simp frames) (simp frames) (simp frames)

  -- words that the view does not read
  unseen : (k v : ℕ) → ltb k header_words ≡ true → ltb 11 k ≡ true → eqb k 15 ≡ false → view (set_head t k v) r ≡ view t r
  unfolding view slot_at
  unseen k v p g o =
      let n : (j : ℕ) → ltb j 12 ≡ true → eqb k j ≡ false = λ j m. ne_eqb k j (λ e. omega (arith, ltb-true j 12 m, ltb-true 11 k g)) in
      state_path _ _ (λ y. simp (frames, p, n)) (simp (queue_frames, p, n)) (simp (registry_frames, p, n)) (simp (frames, n)) (simp (frames, n)) (simp (frames, n)) (simp (frames, n)) (simp (frames, n)) (simp (frames, n)) (simp (frames, n, o)) (simp (frames, n))

  pub view_fast_slot : (x : ℕ) → view (set_fast_slot t x) r ≡ view t r
  view_fast_slot x = unseen 12 x refl refl refl

  pub view_lane_count : (n : ℕ) → view (set_lane_count t n) r ≡ view t r
  view_lane_count n = unseen 13 n refl refl refl

  pub view_living_count : (n : ℕ) → view (set_living_count t n) r ≡ view t r
  view_living_count n = unseen 14 n refl refl refl

  pub view_held_count : (n : ℕ) → view (set_held_count t n) r ≡ view t r
  view_held_count n = unseen 16 n refl refl refl
