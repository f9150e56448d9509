-- A chunk of the front lane: what it asks of the table, and what it leaves.
-- Assumes nothing.
use mathlib.Core.Path.{◌≡◌, refl, sym, ap, ◌∙◌, subst}
use mathlib.Core.List.{List, [], ◌∷◌}
use Prim.Native.Nat.{ℕ, zero, suc, ◌-◌, ◌≤◌, ◌<◌, min}
use native.Mathlib.Omega.{arith}
use borrow.Author.Tests.{eqb-false}
use lib.Dec.{eqb}
use lib.ListN.{length, set}
use Rattle.lane.specs.declared.lane.Lane.{Lane}
use Rattle.lane.specs.declared.lane.BurstEnd.{BurstEnd}
use Rattle.lane.specs.declared.lane.Reloaded.{Reloaded}
use Rattle.yring.specs.Ring.{new_ring, Within}
use Rattle.lane.specs.Order.{Counts, InOrder, Filled}
use Rattle.lane.specs.Lane.{reload_is_empty, advance, charge, add_burst, end_full_burst, chunk_limit, move_chunk}
use Rattle.lane.specs.Table.{lane_at, put_lane}
use Rattle.lane.proofs.OrderLaws.{cond_holds, refill_fills, move_chunk_keeps}
use Rattle.lane.proofs.HeldLaws.{refill_is}
use Rattle.lane.proofs.TableLaws.{frames, slot_of_lane}
use Rattle.queues.specs.Header.{slots, budget, capacity, set_budget}
use Rattle.queues.specs.Queue.{front_slot}
use Rattle.turns.specs.Turn.{Turning, Ringed, front_lane, less_one, rotate_if, gave_front}
use Rattle.receive_batch.specs.Batch.{Fronts, full_budget, chunk_size, gave_chunk, chunk_given}
use Rattle.store.proofs.LaneFields.{Flagged, flagged, flagged_at_batch, flagged_end, RefillKept, refill_kept}
use Rattle.turns.proofs.TurnLaws.{slot_below, ring_in, front_issued, front_ordered, turning_budget}
use Rattle.turns.proofs.FrontLaws.{Keeps, turning_gave, head_gave, length_gave}

-- ---- its size

full_some : (n : ℕ) → 0 < full_budget n
unfolding full_budget
full_some n = cond_holds (λ (m : ℕ). 0 < m) (eqb n 0) 64 n (λ e. omega arith) (λ e. omega (arith, eqb-false n 0 e))

least_of : (a b c : ℕ) → (min (min a b) c ≤ a) × (min (min a b) c ≤ b) × (min (min a b) c ≤ c)
least_of a b c = (omega arith, omega arith, omega arith)

all_some : (a b c : ℕ) → 0 < a → 0 < b → 0 < c → 0 < min (min a b) c
all_some a b c p q s = omega arith

limit_some : {B d a c u b w : ℕ} → Counts B d a c u b w → 0 < c → 0 < min (min c (64 - b)) (B - u)
limit_some {B = B} {c = c} {u = u} {b = b} k s = all_some c (64 - b) (B - u) s (omega (arith, k.burst_most)) (omega (arith, k.unreleased_below))

pub chunk_least : (t : List ℕ) (left : ℕ) (l : Lane) → (chunk_size t left l ≤ left) × (chunk_size t left l ≤ full_budget (budget t)) × (chunk_size t left l ≤ chunk_limit (capacity t) l)
unfolding chunk_size
chunk_least t left l = least_of left (full_budget (budget t)) (chunk_limit (capacity t) l)

pub chunk_some : (t : List ℕ) (left : ℕ) (l : Lane) → Filled (capacity t) l → 0 < left → 0 < chunk_size t left l
unfolding chunk_size chunk_limit
chunk_some t left l f h = all_some left (full_budget (budget t)) _ h (full_some (budget t)) (limit_some f.order.counts f.some)

-- ---- the lane

-- the lane after a chunk, and whether its burst is full
abbrev pub chunk_end : ℕ → ℕ → Lane → BurstEnd
chunk_end C n l = end_full_burst (move_chunk C n l)

pub end_keeps_flags : (l : Lane) → flagged (end_full_burst l).lane ≡ flagged l
unfolding end_full_burst
end_keeps_flags l = flagged_end (eqb l.burst 64) l

-- a word stored twice
set_again : (l : List ℕ) (k v w : ℕ) → set (set l k v) k w ≡ set l k w
set_again [] zero v w = refl
set_again [] (suc k) v w = refl
set_again (x ∷ l) zero v w = refl
set_again (x ∷ l) (suc k) v w = ap (λ (m : List ℕ). x ∷ m) (set_again l k v w)

module _ (t : List ℕ) (l : Lane) (f : Fronts t l) where
  abbrev k : Turning t
  k = f.turning

  pub chunk_filled : Filled (capacity t) l
  chunk_filled = refill_fills (capacity t) k.power.most (front_lane t) (front_ordered t k f.some) l f.filled

  pub chunk_flags : flagged l ≡ flagged (front_lane t)
  chunk_flags = subst (RefillKept (front_lane t)) f.filled (refill_kept (front_lane t))

  pub chunk_slot : l.key.slot ≡ front_slot t
  chunk_slot = ap (λ (z : Flagged). z.0.slot) chunk_flags ∙ slot_of_lane t (front_slot t)

  pub chunk_below : l.key.slot < slots t
  chunk_below = rw chunk_slot (slot_below t k (front_slot t) (front_issued t k f.some))

  pub chunk_ring : (r : List ℕ) → Ringed t r → Within (new_ring l.key.slot (capacity t)) (length r)
  chunk_ring r g = subst (λ (x : ℕ). Within (new_ring x (capacity t)) (length r)) (sym chunk_slot) (ring_in t k (front_slot t) (front_issued t k f.some) r g)

  -- the lane loaded anew
  pub loaded_again : (a : Lane) (m : Reloaded) → a ≡ lane_at t l.key.slot → m ≡ reload_is_empty a → m.lane ≡ l
  unfolding reload_is_empty
  loaded_again a m p e = ap (λ (x : Reloaded). x.lane) (e ∙ ap reload_is_empty (p ∙ ap (lane_at t) chunk_slot)) ∙ refill_is (front_lane t) l f.filled

  module _ (n : ℕ) (h : n ≤ chunk_limit (capacity t) l) where
    abbrev C : ℕ
    C = capacity t

    pub end_ordered : InOrder C (chunk_end C n l).lane
    end_ordered = move_chunk_keeps C k.power.most l chunk_filled n h

    pub lane_flags : flagged (move_chunk C n l) ≡ flagged (front_lane t)
    unfolding move_chunk
    lane_flags = flagged_at_batch C (add_burst n (charge n (advance n l))) ∙ chunk_flags

    pub end_flags : flagged (chunk_end C n l).lane ≡ flagged (front_lane t)
    end_flags = end_keeps_flags (move_chunk C n l) ∙ lane_flags

    pub lane_slot : (move_chunk C n l).key.slot ≡ front_slot t
    lane_slot = ap (λ (z : Flagged). z.0.slot) lane_flags ∙ slot_of_lane t (front_slot t)

    -- the table after it is that after one item, with another budget
    given_is : set_budget (gave_front t (chunk_end C n l).ended (chunk_end C n l).lane) (full_budget (budget t) - n) ≡ chunk_given t n l
    unfolding chunk_given gave_chunk gave_front
    given_is = set_again (rotate_if (chunk_end C n l).ended (put_lane t (chunk_end C n l).lane)) 5 (less_one (budget t)) (full_budget (budget t) - n)

    pub chunk_keeps : Keeps t (chunk_given t n l)
    chunk_keeps =
        let e : BurstEnd = chunk_end C n l in
        let g = turning_gave t k f.some e.ended e.lane end_flags end_ordered in
        subst (Keeps t) given_is
        (record {
          turning = turning_budget (gave_front t e.ended e.lane) g (full_budget (budget t) - n);
          long = simp frames (length_gave t e.ended e.lane);
          same_slots = simp frames (head_gave t e.ended e.lane 4 refl refl refl);
          same_capacity = simp frames (head_gave t e.ended e.lane 8 refl refl refl);
        })
