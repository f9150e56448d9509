-- A chunk of the front lane is the rules' chunk of it: what is handed out, what is left, and a store in order.
-- Assumes nothing.
use mathlib.Core.Path.{◌≡◌, refl, sym, ap, ap₂, ◌∙◌, subst}
use mathlib.Core.Bool.{Bool, true, false, cond}
use mathlib.Core.List.{List, [], ◌∷◌, ◌++◌, map}
use Prim.Native.Nat.{ℕ, zero, suc, ◌+◌, ◌-◌, ◌≤◌, ◌<◌}
use native.Mathlib.Omega.{arith}
use borrow.Author.Tests.{ne_eqb}
use lib.Dec.{eqb}
use lib.ListN.{length, take, drop, length-append}
use Rattle.model.specs.declared.LaneKey.{LaneKey}
use Rattle.model.specs.Lists.{if}
use Rattle.model.specs.State.{Slot, State, release_batch}
use Rattle.model.specs.Changes.{with_queue, with_budget, put, popped}
use Rattle.model.specs.Order.{Ordered}
use Rattle.model.specs.Turn as rules
use Rattle.demands.proofs.WholeChunk.{first_of, given, ChunkFits, given_ordered}
use Rattle.demands.proofs.StopInChunk.{part_given_ordered}
use Rattle.lane.specs.declared.lane.Lane.{Lane}
use Rattle.lane.specs.declared.lane.Released.{Released}
use Rattle.yring.specs.Ring.{new_ring, items}
use Rattle.lane.specs.Lane.{advance, charge, add_burst, end_burst, release, held_items, release_at_batch, end_full_burst, chunk_limit, move_chunk}
use Rattle.lane.specs.Table.{lane_at}
use Rattle.lane.proofs.OrderLaws.{chunk_within}
use Rattle.lane.proofs.HeldLaws.{move_chunk_takes_first, refill_is}
use Rattle.queues.specs.Header.{budget, capacity}
use Rattle.queues.specs.Queue.{queue_of, front_slot, pop_front}
use Rattle.store.specs.View.{slot_at, view}
use Rattle.store.specs.Order.{Stores, InOrderButHeld}
use Rattle.receive_batch.specs.Batch.{Fronts, full_budget, chunk_items, gave_chunk, chunk_given}
use Rattle.store.proofs.ViewLaws.{slot_in}
use Rattle.store.proofs.LaneView.{looked_counts}
use Rattle.refinement.proofs.SameFlags.{key_by}
use Rattle.store.proofs.BetweenTurns.{FrontLane, front_lane_lem}
use Rattle.turns.proofs.TurnLaws.{queue_is}
use Rattle.turns.proofs.DueLaws.{ringed_of}
use Rattle.refinement.proofs.FrontBack.{Back, back_view, back_stores}
use Rattle.receive_batch.proofs.ChunkLaws.{chunk_end, chunk_filled, chunk_flags, chunk_slot, chunk_ring, end_ordered, end_flags}
use Rattle.receive_batch.proofs.DrainLaws.{length_chunk, chunk_handed}
use Rattle.refinement.proofs.LookView.{ready_holds}

-- ---- lists

take_first_lem : (a b : List ℕ) → take (length a) (a ++ b) ≡ a
take_first_lem [] b = refl
take_first_lem (v ∷ a) b = ap (λ (l : List ℕ). v ∷ l) (take_first_lem a b)

drop_first : (a b : List ℕ) → drop (length a) (a ++ b) ≡ b
drop_first [] b = refl
drop_first (v ∷ a) b = drop_first a b

-- ---- counts

-- a budget of 0 counts as 64, as in the rules
pub full_alike : (n : ℕ) → full_budget n ≡ rules.refill n
unfolding full_budget rules.refill
full_alike zero = refl
full_alike (suc n) = rw (ne_eqb (suc n) 0 (λ z. omega arith))

-- the counts of a lane after n items: "Credit goes back when the unreleased count reaches the release batch"
lane_counts : (C n : ℕ) (l : Lane)
    → ((move_chunk C n l).unreleased ≡ if (eqb (l.unreleased + n) (release_batch C)) 0 (l.unreleased + n)) × ((move_chunk C n l).burst ≡ l.burst + n) × ((move_chunk C n l).window ≡ l.window)
unfolding move_chunk release_at_batch
lane_counts C n l = go (eqb (l.unreleased + n) (release_batch C))
  where
    after : Bool → Released
    after b =
        cond b (record { lane = release (add_burst n (charge n (advance n l))); released = true }) (record { lane = add_burst n (charge n (advance n l)); released = false })

    go : (b : Bool) → ((after b).lane.unreleased ≡ if b 0 (l.unreleased + n)) × ((after b).lane.burst ≡ l.burst + n) × ((after b).lane.window ≡ l.window)
    go true = (refl, refl, refl)
    go false = (refl, refl, refl)

-- and at the end of a burst
end_counts : (l : Lane) → ((end_full_burst l).lane.unreleased ≡ l.unreleased) × ((end_full_burst l).lane.burst ≡ if (eqb l.burst 64) 0 l.burst) × ((end_full_burst l).lane.window ≡ l.window)
unfolding end_full_burst
end_counts l = go (eqb l.burst 64)
  where
    go : (b : Bool) → ((end_burst b l).unreleased ≡ l.unreleased) × ((end_burst b l).burst ≡ if b 0 l.burst) × ((end_burst b l).window ≡ l.window)
    go true = (refl, refl, refl)
    go false = (refl, refl, refl)

end_holds : (x C : ℕ) (r : List ℕ) (l : Lane) → held_items (new_ring x C) r (end_full_burst l).lane ≡ held_items (new_ring x C) r l
unfolding end_full_burst held_items
end_holds x C r l = go (eqb l.burst 64)
  where
    go : (b : Bool) → held_items (new_ring x C) r (end_burst b l) ≡ held_items (new_ring x C) r l
    go true = refl
    go false = refl

-- ---- the chunk

module _ (t r : List ℕ) (o : InOrderButHeld t r) (l : Lane) (f : Fronts t l) (n : ℕ) (h : n ≤ chunk_limit (capacity t) l) (b : n ≤ full_budget (budget t)) where
  abbrev C : ℕ
  C = capacity t

  abbrev x : ℕ
  x = front_slot t

  abbrev q : List ℕ
  q = queue_of (pop_front t)

  abbrev m : Lane
  m = (chunk_end C n l).lane

  abbrev slot : Slot
  slot = (view t r).slot_of x

  pub chunk_queue : queue_of t ≡ x ∷ q
  chunk_queue = queue_is t f.turning f.some

  front : FrontLane t x q
  front = front_lane_lem t r o x q chunk_queue

  sees : slot ≡ slot_at t r x
  sees = slot_in t r x front.is_issued

  -- the rules' counts of the lane are those of the lane refilled
  seen_counts : (slot.unreleased ≡ l.unreleased) × (slot.burst ≡ l.burst)
  unfolding slot_at
  seen_counts =
      let c = looked_counts (lane_at t x) in
      let same = refill_is (lane_at t x) l f.filled in (
        ap (λ (s : Slot). s.unreleased) sees ∙ sym c.0 ∙ ap (λ (k : Lane). k.unreleased) same,
        ap (λ (s : Slot). s.burst) sees ∙ sym c.1 ∙ ap (λ (k : Lane). k.burst) same,
      )

  lane_holds_lem : held_items (new_ring l.key.slot C) r l ≡ chunk_items t r n l ++ held_items (new_ring l.key.slot C) r m
  unfolding chunk_items
  lane_holds_lem =
      move_chunk_takes_first (new_ring l.key.slot C) r l (chunk_ring t l f r (ringed_of t r o)) (chunk_filled t l f) n h
      ∙ ap (λ (vs : List ℕ). items (new_ring l.key.slot C) r l.head n ++ vs) (sym (end_holds l.key.slot C r (move_chunk C n l)))

  -- the chunk's items are the first of the rules' items of the lane
  ring_splits : slot.ring ≡ chunk_items t r n l ++ held_items (new_ring x C) r m
  unfolding slot_at
  ring_splits =
      ap (λ (s : Slot). s.ring) sees ∙ sym (ready_holds t r o.stores x front.is_issued front.registered l f.filled)
      ∙ ap (λ (y : ℕ). held_items (new_ring y C) r l) (sym (chunk_slot t l f)) ∙ lane_holds_lem
      ∙ ap (λ (y : ℕ). chunk_items t r n l ++ held_items (new_ring y C) r m) (chunk_slot t l f)

  items_first : take n slot.ring ≡ chunk_items t r n l
  items_first = ap₂ take (sym (length_chunk t r n l)) ring_splits ∙ take_first_lem (chunk_items t r n l) (held_items (new_ring x C) r m)

  items_left : held_items (new_ring x C) r m ≡ drop n slot.ring
  items_left = sym (ap₂ drop (sym (length_chunk t r n l)) ring_splits ∙ drop_first (chunk_items t r n l) (held_items (new_ring x C) r m))

  pub chunk_fits : 1 ≤ n → ChunkFits (view t r) x n
  unfolding view
  chunk_fits some =
      let w = chunk_within C o.stores.power.most l (chunk_filled t l f) n h in
      let c = seen_counts in
      record {
        some = some;
        in_ring = omega (arith, ap length ring_splits, length-append (chunk_items t r n l) (held_items (new_ring x C) r m), length_chunk t r n l);
        in_budget = rw (← full_alike (budget t)) b;
        in_burst = omega (arith, c.1, w.2);
        in_batch = omega (arith, c.0, w.1);
      }

  -- what is handed out
  pub chunk_hands : chunk_handed t r n l ≡ first_of (view t r) x n
  chunk_hands = ap₂ (λ (k : LaneKey) (vs : List ℕ). map (λ v. (k, v)) vs) (key_by t x l (chunk_flags t l f) r front.is_issued) (sym items_first)

  back : Back t x m
  back =
      record {
        same_flags = end_flags t l f n h;
        order = end_ordered t l f n h;
        closed = (end_counts (move_chunk C n l)).2 ∙ (lane_counts C n l).2 ∙ (chunk_filled t l f).closed;
      }

  unreleased_after_lem : m.unreleased ≡ if (eqb (slot.unreleased + n) (release_batch C)) 0 (slot.unreleased + n)
  unreleased_after_lem =
      (end_counts (move_chunk C n l)).0 ∙ (lane_counts C n l).0 ∙ ap (λ (u : ℕ). if (eqb (u + n) (release_batch C)) 0 (u + n)) (sym seen_counts.0)

  burst_on : (move_chunk C n l).burst ≡ slot.burst + n
  burst_on = (lane_counts C n l).1 ∙ ap (λ (u : ℕ). u + n) (sym seen_counts.1)

  burst_after : m.burst ≡ if (eqb (slot.burst + n) 64) 0 (slot.burst + n)
  burst_after = (end_counts (move_chunk C n l)).1 ∙ ap (λ (u : ℕ). if (eqb u 64) 0 u) burst_on

  turn_over : (chunk_end C n l).ended ≡ eqb (slot.burst + n) 64
  unfolding end_full_burst
  turn_over = ap (λ (u : ℕ). eqb u 64) burst_on

  abbrev leaves : ℕ → Bool → List ℕ → ℕ → ℕ → State
  leaves a over vs u d = with_budget a (with_queue (if over (q ++ (x ∷ [])) (x ∷ q)) (put x (popped vs u d slot) (view t r)))

  -- the rules' chunk
  pub chunk_view : view (chunk_given t n l) r ≡ given (view t r) x q n
  unfolding chunk_given gave_chunk view
  chunk_view =
      back_view t r o x q chunk_queue (chunk_end C n l).ended m back (full_budget (budget t) - n)
      ∙ ap₂ (λ (a : ℕ) (over : Bool). leaves (a - n) over (held_items (new_ring x C) r m) m.unreleased m.burst) (full_alike (budget t)) turn_over
      ∙ ap (λ (vs : List ℕ). leaves (rules.refill (budget t) - n) (eqb (slot.burst + n) 64) vs m.unreleased m.burst) items_left
      ∙ ap₂ (λ (u d : ℕ). leaves (rules.refill (budget t) - n) (eqb (slot.burst + n) 64) (drop n slot.ring) u d) unreleased_after_lem burst_after

  -- fewer items are unreleased than the release batch
  pub chunk_owes : slot.unreleased < release_batch C
  chunk_owes = omega (arith, seen_counts.0, (chunk_filled t l f).order.counts.unreleased_below)

  chunk_ordered : Ordered (given (view t r) x q n) → InOrderButHeld (chunk_given t n l) r
  unfolding chunk_given gave_chunk
  chunk_ordered k = record { stores = stored; ordered = subst Ordered (sym chunk_view) k }
    where
      stored : Stores (chunk_given t n l) r
      stored = back_stores t r o x q chunk_queue (chunk_end C n l).ended m back (full_budget (budget t) - n)

  queue_seen : (view t r).queue ≡ x ∷ q
  unfolding view
  queue_seen = chunk_queue

  pub chunk_in_order : 1 ≤ n → InOrderButHeld (chunk_given t n l) r
  chunk_in_order some = chunk_ordered (given_ordered n (view t r) x q queue_seen (chunk_fits some) o.ordered)

  -- a part of a chunk of c, none of it too
  pub part_in_order : (c : ℕ) → ChunkFits (view t r) x c → n < c → InOrderButHeld (chunk_given t n l) r
  unfolding view
  part_in_order c fits i = chunk_ordered (part_given_ordered n c (view t r) x q queue_seen fits i chunk_owes o.ordered)
