-- What the plain and the fair receive ask of a store in order, and what each of their parts leaves.
-- Assumes nothing.
use Rattle.std.specs.Prelude.{Option, Some, None, Result, Ok, Err}
use mathlib.Core.Path.{◌≡◌, refl, sym, ap, ap₂, ◌∙◌, subst}
use mathlib.Core.Bool.{Bool, true, false}
use mathlib.Core.List.{List, [], ◌∷◌}
use Prim.Native.Nat.{ℕ, zero, suc, ◌+◌, ◌-◌, ◌≤◌, ◌<◌}
use native.Mathlib.Omega.{arith}
use borrow.Author.Tests.{eq-eqb, ne_eqb, eqb-true, lt-ltb}
use lib.Dec.{eqb, ltb}
use lib.ListN.{length, set}
use lib.Seq.{set_comm}
use Rattle.yring.specs.declared.ring.Ring.{Ring}
use Rattle.lane.specs.declared.lane.Lane.{Lane}
use Rattle.lane.specs.declared.lane.LanePoll.{LanePoll}
use Rattle.yring.specs.Ring.{new_ring}
use Rattle.lane.specs.Order.{InOrder, popped_lane}
use Rattle.lane.specs.Lane.{pop_fast, grant_fast, open_for, close_fast, reload, pop_lone, fair_window}
use Rattle.yring.specs.Lists.{scatter}
use Rattle.lane.specs.Table.{lane_at, words, cell_at, put_lane}
use Rattle.lane.proofs.OrderLaws.{cond_holds, closed_reload_keeps, window_for_fits}
use Rattle.lane.proofs.TableLaws.{frames, slot_of_lane}
use Rattle.queues.specs.Header.{Shaped, issued, slots, queue_count, budget, capacity, fast_slot, set_budget, set_fast_slot}
use Rattle.queues.proofs.QueueLaws.{header_in}
use Rattle.queues.specs.Queue.{front_slot}
use Rattle.ready.specs.Ready.{collect_ready}
use Rattle.store.specs.Order.{StoreInOrder, but_held}
use Rattle.turns.specs.declared.turn.Took.{Took}
use Rattle.turns.specs.Turn.{Turning, front_lane, turn_by, poll_front, after_turn, turns_within, turns}
use Rattle.turns.specs.Drained.{Rests}
use Rattle.receive.specs.Receive.{else_take, take_from_window, fast_took, Affords, take_fast, take_if_popped, take_front_window, poll_loop, try_recv_refill, take_lone, take_fair}
use Rattle.store.proofs.LaneFields.{Flagged, flagged_pop_fast, flagged_grant, flagged_pop_fair}
use Rattle.turns.proofs.TurnLaws.{slot_below, front_issued, front_ordered, turning_budget}
use Rattle.turns.proofs.FrontLaws.{Keeps, keeps_then, Turned, polled_front, poll_front_turned, turns_keep}
use Rattle.turns.proofs.CollectKeeps.{collect_keeps}
use Rattle.turns.specs.Due.{collect_if_due}
use Rattle.turns.proofs.DueLaws.{turning_of, due_keeps}
use Rattle.lane.specs.declared.consumer.Taken.{Taken}
use Rattle.lane.specs.declared.lane.EmptyLane.{EmptyLane}
use Rattle.std.specs.declared.ops.ControlFlow.{ControlFlow}
use Rattle.std.specs.declared.ops.ControlFlow.TheVariants.{Continue, Break}

-- ---- windows

module _ (ring : Ring) (store : List ℕ) (l : Lane) where
  -- an item comes of an open window
  pub pop_open : (x : Taken) → pop_fast ring store l ≡ Some x → l.window ≡ 0 → ⊥
  unfolding pop_fast
  pop_open x e z = let f = rw (eq-eqb l.window 0 z) at e in cc

  pub pop_slot : (x : Taken) → pop_fast ring store l ≡ Some x → x.lane.key.slot ≡ l.key.slot
  pop_slot x e = ap (λ (p : Option Taken). (popped_lane l p).key.slot) (sym e) ∙ ap (λ (z : Flagged). z.0.slot) (flagged_pop_fast ring store l)

module _ (t r : List ℕ) (o : StoreInOrder t r) (h : fast_slot t < issued t) (e : (lane_at t (fast_slot t)).registered ≡ 1) where
  pub fast_room : (x : Taken) → pop_fast (new_ring (fast_slot t) (capacity t)) r (lane_at t (fast_slot t)) ≡ Some x
      → Shaped t × (x.lane.key.slot < slots t) × (0 < budget t)
  fast_room x p =
      let some = pop_open (new_ring (fast_slot t) (capacity t)) r (lane_at t (fast_slot t)) x p in
      let w : 0 < (lane_at t (fast_slot t)).window = omega (arith, some) in
      let at = pop_slot (new_ring (fast_slot t) (capacity t)) r (lane_at t (fast_slot t)) x p ∙ slot_of_lane t (fast_slot t) in
      (o.stores.shaped, rw at (slot_below t (turning_of t r (but_held o)) (fast_slot t) h), omega (arith, w, (o.stores.windows (fast_slot t) h e w).within))

-- a window granted is within the budget
pub granted_within : (C b : ℕ) (l : Lane) → C ≤ 65536 → InOrder C l → (grant_fast C b l).window ≤ b
unfolding grant_fast open_for
granted_within C b l s o = (window_for_fits C s b (reload (close_fast l)) (closed_reload_keeps C s l o)).3

module _ (t r : List ℕ) (k : Turning t) (some : queue_count t ≡ 0 → ⊥) where
  granted_slot : (grant_fast (capacity t) (budget t) (front_lane t)).key.slot ≡ front_slot t
  granted_slot = ap (λ (z : Flagged). z.0.slot) (flagged_grant (capacity t) (budget t) (front_lane t)) ∙ slot_of_lane t (front_slot t)

  pub window_room : (l : Lane) → l ≡ grant_fast (capacity t) (budget t) (front_lane t) → (p : Option Taken) → p ≡ pop_fast (new_ring (front_slot t) (capacity t)) r l
      → Shaped t × ((x : Taken) → p ≡ Some x → x.lane.key.slot < slots t) × Affords t p
  window_room l a p e = (
    k.shaped,
    λ x f. rw (pop_slot (new_ring (front_slot t) (capacity t)) r l x (sym e ∙ f) ∙ ap (λ (m : Lane). m.key.slot) a ∙ granted_slot) (slot_below t k (front_slot t) (front_issued t k some)),
    go p (sym e),
  )
    where
      go : (p : Option Taken) → pop_fast (new_ring (front_slot t) (capacity t)) r l ≡ p → Affords t p
      go (Some taken) f =
          let w = pop_open (new_ring (front_slot t) (capacity t)) r l taken f in
          let b : l.window ≤ budget t = rw a (granted_within (capacity t) (budget t) (front_lane t) k.power.most (front_ordered t k some)) in
          omega (arith, w, b)
      go None f = omega arith

  pub lone_room : 0 < budget t → (x : Taken) → Some x ≡ pop_lone (new_ring (front_slot t) (capacity t)) r (budget t) (front_lane t)
      → Shaped t × (x.lane.key.slot < slots t) × (0 < budget t)
  lone_room h x e =
      let at = ap (λ (p : Option Taken). (popped_lane (fair_window (capacity t) (budget t) (front_lane t)) p).key.slot) e ∙ ap (λ (z : Flagged). z.0.slot) (flagged_pop_fair (new_ring (front_slot t) (capacity t)) r (budget t) (front_lane t)) ∙ slot_of_lane t (front_slot t) in
      (k.shaped, rw at (slot_below t k (front_slot t) (front_issued t k some)), h)

-- ---- one take after another

module _ (o : Option Took × List ℕ) (f : List ℕ → Option Took × List ℕ) (u : List ℕ) where
  pub else_item : (took : Took) → (Some took, u) ≡ o → (Some took, u) ≡ else_take o f
  unfolding else_take
  else_item took e = ap (λ (p : Option Took × List ℕ). else_take p f) e

  pub else_nothing : (None, u) ≡ o → f u ≡ else_take o f
  unfolding else_take
  else_nothing e = ap (λ (p : Option Took × List ℕ). else_take p f) e

-- a take that handed nothing out and changed nothing
abbrev pub Unmoved : List ℕ → Option Took × List ℕ → Type 0
Unmoved t (Some took, u) = 0 < 1
Unmoved t (None, u) = u ≡ t

open_unmoved : (t : List ℕ) (p : Option Taken) → Unmoved t (take_if_popped t p)
unfolding take_if_popped take_from_window
open_unmoved t (Some taken) = omega arith
open_unmoved t None = refl

fast_unmoved : (t : List ℕ) (p : Option Taken) → Unmoved t (fast_took t p)
unfolding fast_took take_from_window
fast_unmoved t (Some taken) = omega arith
fast_unmoved t None = refl

pub take_fast_unmoved : (t r : List ℕ) → Unmoved t (take_fast t r)
unfolding take_fast
take_fast_unmoved t r =
    cond_holds (Unmoved t) (ltb (fast_slot t) (issued t)) _ (None, t)
    (λ e. cond_holds (Unmoved t) (eqb (lane_at t (fast_slot t)).registered 1) _ (None, t) (λ f. fast_unmoved t _) (λ f. refl)) (λ e. refl)

pub take_window_unmoved : (t r : List ℕ) → Unmoved t (take_front_window t r)
unfolding take_front_window
take_window_unmoved t r = cond_holds (Unmoved t) (eqb (queue_count t) 0) (None, t) _ (λ e. refl) (λ e. open_unmoved t _)

pub take_lone_unmoved : (t r : List ℕ) → Unmoved t (take_lone t r)
unfolding take_lone
take_lone_unmoved t r = cond_holds (Unmoved t) (eqb (queue_count t) 1) _ (None, t) (λ e. open_unmoved t _) (λ e. refl)

pub unmoved_is : (t u : List ℕ) (o : Option Took × List ℕ) → (None, u) ≡ o → Unmoved t o → u ≡ t
unmoved_is t u o e k = subst (Unmoved t) (sym e) k

-- ---- what is kept, and where nothing is taken no lane is queued

pub fair_keeps : (t : List ℕ) → Turning t → Keeps t (set_budget (collect_ready true t) 64)
fair_keeps t k =
    let c = collect_keeps true t k in
    keeps_then c (record { turning = turning_budget (collect_ready true t) c.turning 64; long = simp frames; same_slots = simp frames; same_capacity = simp frames })

abbrev Ending : ControlFlow (Option Took) (Unit {0}) × List ℕ → Type 0
Ending (Break (Some took), u) = 0 < 1
Ending (Break None, u) = queue_count u ≡ 0
Ending (Continue done, u) = 0 < 1

poll_ending : (t r : List ℕ) (fair : Bool) → Ending (poll_front t r fair)
unfolding poll_front turn_by
poll_ending t r fair =
    cond_holds Ending (eqb (queue_count t) 0) (Break None, t) (turn_by t (polled_front t r fair)) (λ e. eqb-true (queue_count t) 0 e) (λ e. go (polled_front t r fair))
  where
    go : (p : Result LanePoll EmptyLane) → Ending (turn_by t p)
    go (Ok p) = omega arith
    go (Err found) = omega arith

rest_within : (n : ℕ) (t r : List ℕ) (fair : Bool) → Turning t → queue_count t ≡ n → Rests (turns_within n t r fair)
unfolding turns_within after_turn
rest_within zero t r fair k e = record { turning = k; none_queued = e }
rest_within (suc n) t r fair k e = go (λ u m f. rest_within n u r fair m f) (poll_front t r fair) (poll_front_turned t r fair k) (poll_ending t r fair)
  where
    one_less : {m : ℕ} → m + 1 ≡ queue_count t → m ≡ n
    one_less f = omega arith

    go : ((u : List ℕ) → Turning u → queue_count u ≡ n → Rests (turns_within n u r fair)) → (o : ControlFlow (Option Took) (Unit {0}) × List ℕ) → Turned t o → Ending o
        → Rests (after_turn o (turns_within n o.1 r fair))
    go ih (Break (Some took), u) a b = omega arith
    go ih (Break None, u) a b = record { turning = a.keeps.turning; none_queued = b }
    go ih (Continue done, u) a b = ih u a.keeps.turning (one_less (a.fewer refl))

pub turns_rest : (t r : List ℕ) (fair : Bool) → Turning t → Rests (turns t r fair)
unfolding turns
turns_rest t r fair k = rest_within (queue_count t) t r fair k refl

-- the second take starts where the first ended
else_rest : (o : Option Took × List ℕ) (f : List ℕ → Option Took × List ℕ) → ((u : List ℕ) → o ≡ (None, u) → Rests (f u)) → Rests (else_take o f)
unfolding else_take
else_rest (Some took, u) f k = omega arith
else_rest (None, u) f k = k u refl

loop_rest : (t r : List ℕ) → Turning t → Rests (poll_loop t r)
unfolding poll_loop
loop_rest t r k =
    else_rest (turns t r false) (λ u. turns (collect_ready true u) r false)
    (λ u e. turns_rest (collect_ready true u) r false (collect_keeps true u (subst (λ (o : Option Took × List ℕ). Turning o.1) e (turns_keep t r false k).turning)).turning)

pub refill_rest : (t r : List ℕ) → Turning t → Rests (try_recv_refill t r)
unfolding try_recv_refill
refill_rest t r k =
    else_rest (take_front_window (collect_if_due t) r) (λ u. poll_loop u r)
    (λ u e. loop_rest u r (subst Turning (sym (unmoved_is (collect_if_due t) u _ (sym e) (take_window_unmoved (collect_if_due t) r))) (due_keeps t k).turning))

pub take_fair_rest : (t r : List ℕ) → Turning t → Rests (take_fair t r)
unfolding take_fair
take_fair_rest t r k =
    let v = set_budget (collect_ready true t) 64 in
    else_rest (take_lone v r) (λ u. turns u r true)
    (λ u e. turns_rest u r true (subst Turning (sym (unmoved_is v u _ (sym e) (take_lone_unmoved v r))) (fair_keeps t k).turning))

-- ---- what the code has for the definitions' parts

pub take_fast_is : (t r : List ℕ) → fast_slot t < issued t → (lane_at t (fast_slot t)).registered ≡ 1 → (p : Option Taken)
    → pop_fast (new_ring (fast_slot t) (capacity t)) r (lane_at t (fast_slot t)) ≡ p → fast_took t p ≡ take_fast t r
unfolding take_fast
take_fast_is t r h e p f = sym (rw (lt-ltb (fast_slot t) (issued t) h, eq-eqb (lane_at t (fast_slot t)).registered 1 e) (ap (fast_took t) f))

pub take_window_is : (t r : List ℕ) → (queue_count t ≡ 0 → ⊥) → (p : Option Taken)
    → p ≡ pop_fast (new_ring (front_slot t) (capacity t)) r (grant_fast (capacity t) (budget t) (front_lane t)) → take_if_popped t p ≡ take_front_window t r
unfolding take_front_window
take_window_is t r h p f = sym (rw (ne_eqb (queue_count t) 0 h) (ap (take_if_popped t) (sym f)))

pub take_lone_is : (t r : List ℕ) → queue_count t ≡ 1 → (p : Option Taken)
    → p ≡ pop_lone (new_ring (front_slot t) (capacity t)) r (budget t) (front_lane t) → take_if_popped t p ≡ take_lone t r
unfolding take_lone
take_lone_is t r h p f = sym (rw (eq-eqb (queue_count t) 1 h) (ap (take_if_popped t) (sym f)))

-- a header word stored before a lane, or after it
scatter_after : (ws t : List ℕ) (p : ℕ → ℕ) (k v : ℕ) → ((i : ℕ) → k ≡ p i → ⊥) → scatter (set t k v) p ws ≡ set (scatter t p ws) k v
scatter_after [] t p k v n = refl
scatter_after (w ∷ ws) t p k v n =
    ap (λ u. scatter u (λ i. p (suc i)) ws) (set_comm t k (p 0) v w (n 0)) ∙ scatter_after ws (set t (p 0) w) (λ i. p (suc i)) k v (λ i. n (suc i))

lane_after_fast : (t : List ℕ) (l : Lane) (v : ℕ) → put_lane (set_fast_slot t v) l ≡ set_fast_slot (put_lane t l) v
unfolding put_lane
lane_after_fast t l v = scatter_after (words l) t (λ i. cell_at i l.key.slot) 12 v (λ i e. omega arith)

-- `fast_slot` may be stored after the item is counted
pub fast_after : (t u : List ℕ) (took : Option Took) (item : ℕ) (l : Lane) (v : ℕ) → (took, u) ≡ take_from_window t item l → (took, set_fast_slot u v) ≡ take_from_window (set_fast_slot t v) item l
unfolding take_from_window
fast_after t u took item l v e =
    let same : budget (set_fast_slot t v) ≡ budget t = simp frames in
    ap (λ (o : Option Took × List ℕ). (o.0, set_fast_slot o.1 v)) e
    ∙ ap (λ (w : List ℕ). (Some (record { item = item; key = l.key }), w))
    (set_comm (put_lane t l) 5 12 (budget t - 1) v (λ z. omega arith) ∙ ap₂ (λ (w : List ℕ) (b : ℕ). set_budget w (b - 1)) (sym (lane_after_fast t l v)) (sym same))

window_long : (t : List ℕ) (item : ℕ) (l : Lane) (v : ℕ) → length (take_from_window (set_fast_slot t v) item l).1 ≡ length t
unfolding take_from_window
window_long t item l v = simp frames

open_long : (t : List ℕ) (p : Option Taken) → length (take_if_popped t p).1 ≡ length t
unfolding take_if_popped
open_long t (Some taken) = window_long t taken.item taken.lane taken.lane.key.slot
open_long t None = refl

pub take_lone_long : (t r : List ℕ) → length (take_lone t r).1 ≡ length t
unfolding take_lone
take_lone_long t r = cond_holds (λ (o : Option Took × List ℕ). length o.1 ≡ length t) (eqb (queue_count t) 1) _ (None, t) (λ e. open_long t _) (λ e. refl)

pub fair_budget : (t : List ℕ) → Turning t → 0 < budget (set_budget (collect_ready true t) 64)
fair_budget t k = simp (frames, header_in (collect_ready true t) (collect_keeps true t k).turning.shaped) (omega arith)

pub counted_long : (t u : List ℕ) (took : Option Took) (item : ℕ) (l : Lane) → (took, u) ≡ take_from_window t item l → length u ≡ length t
unfolding take_from_window
counted_long t u took item l e =
    let same : length (set_budget (put_lane t l) (budget t - 1)) ≡ length t = simp frames in
    ap (λ (o : Option Took × List ℕ). length o.1) e ∙ same
