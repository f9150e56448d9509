-- A receive that took nothing does what the rules say, and leaves a store in order: empty paused lanes retire, slot by slot, then the answer.
-- Assumes nothing.
use mathlib.Core.Path.{◌≡◌, refl, sym, ap, ap₂, ◌∙◌, subst}
use mathlib.Core.Bool.{Bool, true, false, cond, not}
use mathlib.Core.List.{List, [], ◌∷◌}
use Prim.Native.Nat.{ℕ, zero, suc, ◌+◌, ◌-◌, ◌≤◌, ◌<◌}
use native.Mathlib.Omega.{arith}
use borrow.Author.Tests.{eqb-true, ne_eqb, le-leb}
use lib.Dec.{eqb, leb}
use Rattle.model.specs.declared.Answer.{Answer}
use Rattle.model.specs.declared.Answer.TheVariants.{Empty, Disconnected}
use Rattle.model.specs.Lists.{if, both, non_empty, from}
use Rattle.model.specs.State.{Slot, State}
use Rattle.model.specs.Order.{Ordered}
use Rattle.model.specs.Outcome.{says}
use Rattle.model.specs.Turn as turns
use Rattle.model.specs.Receive as rules
use Rattle.demands.proofs.OrderKept.{retire_empty_paused_ordered}
use Rattle.lane.specs.declared.lane.Lane.{Lane}
use Rattle.lane.specs.Lane.{held_items, close_fast, prefetch, reload, reload_is_empty, refill, ready_or_idle}
use Rattle.yring.specs.Ring.{new_ring}
use Rattle.lane.specs.Table.{head, NarrowLane, lane_at}
use Rattle.lane.proofs.OrderLaws.{cond_holds, order_narrow, closed_reload_keeps, refill_fills}
use Rattle.lane.proofs.HeldLaws.{reload_holds, pop_targeted_takes_first}
use Rattle.queues.specs.Header.{issued, slots, budget, capacity, free_count, lane_count, living_count}
use Rattle.queues.specs.Queue.{queue_of}
use Rattle.store.specs.View.{flag, slot_at, view}
use Rattle.store.specs.Order.{Stores, InOrderButHeld}
use Rattle.store.specs.Registry.{retired, retire_lane}
use Rattle.all_lanes.specs.AllLanes.{for_slots}
use Rattle.turns.specs.Turn.{retire_if}
use Rattle.turns.specs.Drained.{retire_empty_paused, retire_empty_paused_lanes, empty_or_drained, nothing_taken}
use Rattle.store.specs.Words.{with_rings}
use Rattle.store.proofs.ViewLaws.{slot_in}
use Rattle.store.proofs.RefusalLaws.{seen}
use Rattle.store.proofs.HeaderWords.{with_word}
use Rattle.store.proofs.StepLaws.{Step, step_start, issued_kept}
use Rattle.store.proofs.StoreLaws.{Owes, stores_after_lem, windows_kept, lane_counted, room_in_free, issued_ring_in}
use Rattle.store.proofs.RetireLaws.{view_retire_as, step_retire_lane}
use Rattle.refinement.proofs.SameFlags.{flags_by, slot_by_lem}
use Rattle.store.proofs.LaneFields.{Flagged, flagged, flagged_looked}
use Rattle.store.proofs.LaneView.{looked, looked_seen, looked_empty}

-- ---- a lane that was looked at retires

looked_ends : (l : Lane) → ((looked l).head ≡ l.head) × ((looked l).tail ≡ l.tail)
unfolding reload
looked_ends l =
    cond_holds (λ m. (m.head ≡ l.head) × (m.tail ≡ l.tail)) (eqb (l.cached + l.window) 0) (prefetch (close_fast l)) (close_fast l) (λ e. (refl, refl)) (λ e. (refl, refl))

module _ (t r : List ℕ) (o : Stores t r) (x : ℕ) (h : x < issued t) where
  abbrev old : Lane
  old = lane_at t x

  abbrev new : Lane
  new = looked old

  same_flags : flagged new ≡ flagged old
  unfolding reload_is_empty
  same_flags = flagged_looked old

  same_key : new.key ≡ old.key
  same_key = ap (λ (z : Flagged). z.0) same_flags

  narrow : old.registered ≡ 1 → NarrowLane new
  narrow g = order_narrow (capacity t) o.power.most new (closed_reload_keeps (capacity t) o.power.most old (o.lanes x h g))

  view_retired_looked : old.registered ≡ 1 → free_count t < slots t → view (retire_lane t new) r ≡ turns.retire_lane x (view t r)
  view_retired_looked g room =
      let ends = looked_ends old in
      let counts = looked_seen old in
      view_retire_as t r o.shaped x h new same_key (narrow g) ends.0 ends.1 (ap (λ (z : Flagged). z.3) same_flags) (ap (λ (z : Flagged). z.5) same_flags) counts.0 counts.1 room

  module _ (g : old.registered ≡ 1) (room : free_count t < slots t) where
    step_retired : Step t (retire_lane t new) x (retired new) (queue_of t) (with_word lane_count (lane_count t - 1) (head t))
    step_retired = step_retire_lane (step_start t r o x) new (slot_by_lem t x new same_flags) (narrow g) h room

    owes_retired : Owes t x (retired new) (queue_of t) (with_word lane_count (lane_count t - 1) (head t))
    owes_retired =
        let f = flags_by old new same_flags (o.flags x h) in
        record {
          flags = record { pending_flag = f.pending_flag; queued_flag = f.queued_flag; paused_flag = omega arith; registered_flag = omega arith; living_flag = f.living_flag };
          order = λ e. absurd (omega arith);
          fast_below = o.fast_below;
          once = o.named.once x;
          flagged = λ e. absurd (omega arith);
          rest = λ y n. refl;
          window = λ e w. absurd (omega arith);
          windows = windows_kept t r o x (budget t) (omega arith);
          lane_count = one_less (lane_count t) old.registered g (lane_counted t r o x h g);
          living_count = ap (λ (n : ℕ). living_count t + n) (sym (ap (λ (z : Flagged). z.3) same_flags));
        }
      where
        one_less : (n a : ℕ) → a ≡ 1 → 0 < n → n - 1 + a ≡ n + 0
        one_less n a e p = omega arith

    stores_retired : Stores (retire_lane t new) r
    stores_retired = stores_after_lem t r (retire_lane t new) r o x h (retired new) _ _ step_retired owes_retired o.rings_room

-- ---- one slot

-- a look at a lane in order finds nothing exactly if its ring is empty
abbrev items_of : List ℕ → List ℕ → ℕ → List ℕ
items_of t r x = held_items (new_ring x (capacity t)) r (lane_at t x)

module _ (t r : List ℕ) (o : Stores t r) (x : ℕ) (h : x < issued t) (g : (lane_at t x).registered ≡ 1) where
  abbrev lane : Lane
  lane = lane_at t x

  pub looked_finds : eqb (looked lane).cached 0 ≡ not (non_empty (held_items (new_ring x (capacity t)) r (lane_at t x)))
  unfolding refill ready_or_idle
  looked_finds = go (eqb (looked lane).cached 0) refl
    where
      some : (v : ℕ) (vs : List ℕ) → items_of t r x ≡ v ∷ vs → false ≡ not (non_empty (items_of t r x))
      some v vs e = rw e

      go : (b : Bool) → eqb (looked lane).cached 0 ≡ b → b ≡ not (non_empty (items_of t r x))
      go true e = rw (looked_empty (new_ring x (capacity t)) o.power.most r lane (o.lanes x h g) (eqb-true _ 0 e))
      go false e =
          some _ _
          (sym (reload_holds (new_ring x (capacity t)) r lane)
          ∙ pop_targeted_takes_first (new_ring x (capacity t)) r (looked lane) (issued_ring_in t r o x h)
          (refill_fills (capacity t) o.power.most lane (o.lanes x h g) (looked lane) (rw e)))

-- the rules' test of a slot
abbrev retires : State → ℕ → Bool
retires s x = both (s.slot_of x).registered (both (s.slot_of x).paused (not (non_empty (s.slot_of x).ring)))

module _ (t r : List ℕ) (o : InOrderButHeld t r) (x : ℕ) (h : x < issued t) where
  abbrev lane₁ : Lane
  lane₁ = lane_at t x

  room_if : lane₁.registered ≡ 1 → free_count t < slots t
  room_if g = room_in_free t r o.stores x h g o.ordered

  -- a slot's turn retires its lane exactly if the rules' test says so
  slot_cases : (P : List ℕ → Bool → Type 0) → (lane₁.registered ≡ 1 → P (retire_lane t (looked lane₁)) true) → P t false → P (retire_empty_paused t x) (retires (view t r) x)
  unfolding retire_empty_paused retire_if reload_is_empty slot_at
  slot_cases P gone stays =
      subst (P (retire_empty_paused t x)) (sym (ap (λ (m : Slot). both m.registered (both m.paused (not (non_empty m.ring)))) (slot_in t r x h)))
      (go (flag lane₁.registered) refl)
    where
      inner : (g : lane₁.registered ≡ 1) (b c : Bool) → c ≡ not (non_empty (items_of t r x))
          → P (cond b (cond c (retire_lane t (looked lane₁)) t) t) (both b (not (non_empty (items_of t r x))))
      inner g true true e = rw (← e) (gone g)
      inner g true false e = rw (← e) stays
      inner g false c e = stays

      go : (a : Bool) → flag lane₁.registered ≡ a
          → P (cond a (cond (flag lane₁.paused) (cond (eqb (looked lane₁).cached 0) (retire_lane t (looked lane₁)) t) t) t)
          (both a (both (flag lane₁.paused) (not (non_empty (items_of t r x)))))
      go true e = let g = eqb-true lane₁.registered 1 e in inner g (flag lane₁.paused) (eqb (looked lane₁).cached 0) (looked_finds t r o.stores x h g)
      go false e = stays

  view_slot : view (retire_empty_paused t x) r ≡ turns.retire_lane_if (retires (view t r) x) x (view t r)
  unfolding turns.retire_lane_if
  view_slot = slot_cases (λ u b. view u r ≡ turns.retire_lane_if b x (view t r)) (λ g. view_retired_looked t r o.stores x h g (room_if g)) refl

  issued_slot : issued (retire_empty_paused t x) ≡ issued t
  issued_slot = slot_cases (λ u b. issued u ≡ issued t) (λ g. issued_kept (step_retired t r o.stores x h g (room_if g))) refl

  slot_in_order : InOrderButHeld (retire_empty_paused t x) r
  unfolding rules.retire_empty_paused_lanes
  slot_in_order =
      record {
        stores = slot_cases (λ u b. Stores u r) (λ g. stores_retired t r o.stores x h g (room_if g)) o.stores;
        ordered = subst Ordered (sym view_slot) (retire_empty_paused_ordered (x ∷ []) (view t r) o.ordered);
      }

-- ---- all slots

module _ (r : List ℕ) where
  view_from : (n k : ℕ) (t : List ℕ) → InOrderButHeld t r → k + n ≤ issued t → view (for_slots retire_empty_paused n k t) r ≡ rules.retire_empty_paused_lanes (from k n) (view t r)
  unfolding for_slots from rules.retire_empty_paused_lanes
  view_from zero k t o h = refl
  view_from (suc n) k t o h =
      let one : k + 1 ≡ suc k = omega arith in
      view_from n (k + 1) (retire_empty_paused t k) (slot_in_order t r o k (omega arith)) (rw (issued_slot t r o k (omega arith)) (omega arith))
      ∙ ap₂ (λ (j : ℕ) (s : State). rules.retire_empty_paused_lanes (from j n) s) one (view_slot t r o k (omega arith))

  from_in_order : (n k : ℕ) (t : List ℕ) → InOrderButHeld t r → k + n ≤ issued t → InOrderButHeld (for_slots retire_empty_paused n k t) r
  unfolding for_slots
  from_in_order zero k t o h = o
  from_in_order (suc n) k t o h =
      from_in_order n (k + 1) (retire_empty_paused t k) (slot_in_order t r o k (omega arith)) (rw (issued_slot t r o k (omega arith)) (omega arith))

module _ (t r : List ℕ) (o : InOrderButHeld t r) where
  view_all : view (retire_empty_paused_lanes t) r ≡ rules.retire_empty_paused_lanes (from 0 (view t r).issued) (view t r)
  unfolding retire_empty_paused_lanes view
  view_all = view_from r (issued t) 0 t o (omega arith)

  all_in_order_lem : InOrderButHeld (retire_empty_paused_lanes t) r
  unfolding retire_empty_paused_lanes
  all_in_order_lem = from_in_order r (issued t) 0 t o (omega arith)

-- ---- the answer

-- a count that is 0 is not 1 or more
some_counted : (n : ℕ) → leb 1 n ≡ not (eqb n 0)
some_counted zero = refl
some_counted (suc n) = rw (ne_eqb (suc n) 0 (λ e. omega arith), le-leb 1 (suc n) (omega arith))

empty_or_drained_alike : (t r : List ℕ) → Stores t r → seen (with_rings r (empty_or_drained t)) ≡ (rules.empty_or_drained (view t r)).1
unfolding empty_or_drained rules.empty_or_drained
empty_or_drained_alike t r o =
    ap (λ (a : Answer). (a, view t r))
    (go (eqb (lane_count t) 0) ∙ ap (λ (b : Bool). if b Empty Disconnected) (sym (some_counted (lane_count t)) ∙ ap (leb 1) o.lanes_counted))
  where
    go : (b : Bool) → cond b Disconnected Empty ≡ if (not b) Empty Disconnected
    go true = refl
    go false = refl

module _ (t r : List ℕ) (o : InOrderButHeld t r) where
  -- Empty or Disconnected as the rules say, and the rules' state
  pub nothing_taken_alike : seen (with_rings r (nothing_taken t)) ≡ (rules.nothing_taken (view t r)).1
  unfolding nothing_taken rules.nothing_taken
  nothing_taken_alike =
      go (eqb (living_count t) 0)
      ∙ ap (λ (b : Bool). (if b (says Empty (view t r)) (rules.empty_or_drained (rules.retire_empty_paused_lanes (from 0 (view t r).issued) (view t r)))).1)
      (sym (some_counted (living_count t)) ∙ ap (leb 1) o.stores.living_counted)
    where
      go : (b : Bool) → seen (with_rings r (cond b (empty_or_drained (retire_empty_paused_lanes t)) (Empty, t)))
          ≡ (if (not b) (says Empty (view t r)) (rules.empty_or_drained (rules.retire_empty_paused_lanes (from 0 (view t r).issued) (view t r)))).1
      go true =
          empty_or_drained_alike (retire_empty_paused_lanes t) r (all_in_order_lem t r o).stores
          ∙ ap (λ (s : State). (rules.empty_or_drained s).1) (view_all t r o)
      go false = refl

  pub nothing_taken_keeps : InOrderButHeld (nothing_taken t).1 r
  unfolding nothing_taken empty_or_drained
  nothing_taken_keeps =
      cond_holds (λ (w : Answer × List ℕ). InOrderButHeld w.1 r) (eqb (living_count t) 0) (empty_or_drained (retire_empty_paused_lanes t)) (Empty, t)
      (λ e. all_in_order_lem t r o) (λ e. o)
