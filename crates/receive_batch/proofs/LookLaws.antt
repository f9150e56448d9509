-- The search for the lane whose turn it is: what each look, and look after look, leaves.
-- Assumes nothing.
use Rattle.std.specs.Prelude.{Option, Some, None, Result, Ok, Err}
use mathlib.Core.Path.{◌≡◌, refl, sym, ap, ◌∙◌, subst}
use mathlib.Core.Bool.{Bool, true, false}
use mathlib.Core.List.{List}
use Prim.Native.Nat.{ℕ, zero, suc, ◌+◌, ◌<◌}
use native.Mathlib.Omega.{arith}
use borrow.Author.Tests.{eq-eqb, ne_eqb, eqb-true, eqb-false}
use lib.Dec.{eqb}
use Rattle.lane.specs.declared.lane.Lane.{Lane}
use Rattle.lane.specs.declared.lane.EmptyLane.{EmptyLane}
use Rattle.lane.specs.Order.{InOrder, Refundable, refilled_lane}
use Rattle.lane.specs.Lane.{refill}
use Rattle.lane.specs.Table.{lane_at}
use Rattle.lane.proofs.OrderLaws.{cond_holds, refundable, refill_keeps}
use Rattle.queues.specs.Header.{Shaped, slots, queue_count, free_count, capacity, lane_count}
use Rattle.queues.specs.Queue.{front_slot}
use Rattle.ready.specs.Ready.{collect_ready}
use Rattle.turns.specs.Turn.{Turning, front_lane, settle_empty_front}
use Rattle.turns.specs.Due.{collect_if_due}
use Rattle.receive_batch.specs.Batch.{look_by, look_front, after_look, run_down_within, run_down, else_front, refresh_active, Reached}
use Rattle.store.proofs.LaneFields.{Emptied, RefillKept, refill_kept}
use Rattle.turns.proofs.TurnLaws.{slot_below, some_lane, free_room, front_issued, front_registered, front_ordered, turning_met}
use Rattle.turns.proofs.FrontLaws.{Keeps, keeps_self, keeps_then, left_slot, turning_left, head_left, length_left, count_left, head_met, length_met}
use Rattle.turns.proofs.CollectKeeps.{collect_keeps}
use Rattle.turns.proofs.DueLaws.{due_keeps}
use Rattle.std.specs.declared.ops.ControlFlow.{ControlFlow}
use Rattle.std.specs.declared.ops.ControlFlow.TheVariants.{Continue, Break}

-- ---- one look

pub record Looked (t : List ℕ) (o : ControlFlow (Option Lane) (Unit {0}) × List ℕ) : Type 0 where
  pub keeps : Keeps t o.1
  pub fewer : o.0 ≡ Continue tt → queue_count o.1 + 1 ≡ queue_count t

module _ (t : List ℕ) (k : Turning t) where
  module _ (some : queue_count t ≡ 0 → ⊥) where
    pub front_refunds : Refundable (front_lane t)
    front_refunds = refundable (capacity t) k.power.most (front_lane t) (front_ordered t k some)

    refill_ordered : InOrder (capacity t) (refilled_lane (refill (front_lane t)))
    refill_ordered = refill_keeps (capacity t) k.power.most (front_lane t) (front_ordered t k some)

    looked_by : (p : Result Lane EmptyLane) → RefillKept (front_lane t) p → InOrder (capacity t) (refilled_lane p) → Looked t (look_by t p)
    unfolding look_by
    looked_by (Ok l) e o = record { keeps = keeps_self t k; fewer = λ z. cc }
    looked_by (Err found) e o =
        record {
          keeps = record {
            turning = turning_met (settle_empty_front t found) (turning_left t k some found e o);
            long = length_met (settle_empty_front t found) ∙ length_left t found;
            same_slots = head_met (settle_empty_front t found) 4 refl ∙ head_left t found 4 refl refl refl refl refl;
            same_capacity = head_met (settle_empty_front t found) 8 refl ∙ head_left t found 8 refl refl refl refl refl;
          };
          fewer = λ z. omega (arith, head_met (settle_empty_front t found) 2 refl, count_left t found k.shaped, some);
        }

    -- a lane found empty: what settling it asks of the code
    module _ (found : EmptyLane) (e : refill (front_lane t) ≡ Err found) where
      emptied : Emptied (front_lane t) found
      emptied = subst (RefillKept (front_lane t)) e (refill_kept (front_lane t))

      found_ordered : InOrder (capacity t) found.lane
      found_ordered = subst (λ (p : Result Lane EmptyLane). InOrder (capacity t) (refilled_lane p)) e refill_ordered

      pub look_room : Shaped t × (found.lane.key.slot < slots t) × (0 < queue_count t) × (free_count t < slots t) × (0 < lane_count t)
      look_room =
          let h = front_issued t k some in (
            k.shaped,
            rw (left_slot t k some found emptied found_ordered) (slot_below t k (front_slot t) h),
            omega (arith, some),
            free_room t k (front_slot t) h (front_registered t k some),
            some_lane t k (front_slot t) h (front_registered t k some),
          )

      pub look_shaped : Shaped (settle_empty_front t found)
      look_shaped = (turning_left t k some found emptied found_ordered).shaped

    pub look_is : (p : Result Lane EmptyLane) → refill (front_lane t) ≡ p → look_by t p ≡ look_front t
    unfolding look_front
    look_is p e = sym (rw (ne_eqb (queue_count t) 0 some) (ap (look_by t) e))

  pub look_front_looked : Looked t (look_front t)
  unfolding look_front
  look_front_looked =
      cond_holds (Looked t) (eqb (queue_count t) 0) (Break None, t) (look_by t (refill (front_lane t)))
      (λ e. record { keeps = keeps_self t k; fewer = λ z. cc })
      (λ e. let some = eqb-false (queue_count t) 0 e in looked_by some (refill (front_lane t)) (refill_kept (front_lane t)) (refill_ordered some))

-- what a look that ends the search found
abbrev Found : ControlFlow (Option Lane) (Unit {0}) × List ℕ → Type 0
Found (Break front, u) = Reached (front, u)
Found (Continue done, u) = 0 < 1

look_front_found : (t : List ℕ) → Turning t → Found (look_front t)
unfolding look_front look_by
look_front_found t k =
    cond_holds Found (eqb (queue_count t) 0) (Break None, t) (look_by t (refill (front_lane t)))
    (λ e. record { turning = k; none_queued = eqb-true (queue_count t) 0 e }) (λ e. go (eqb-false (queue_count t) 0 e) (refill (front_lane t)) refl)
  where
    go : (queue_count t ≡ 0 → ⊥) → (p : Result Lane EmptyLane) → refill (front_lane t) ≡ p → Found (look_by t p)
    go some (Ok l) e = record { turning = k; some = some; filled = e }
    go some (Err found) e = omega arith

-- ---- look after look

none_queued : (t : List ℕ) → queue_count t ≡ 0 → look_front t ≡ (Break None, t)
unfolding look_front
none_queued t e = rw (eq-eqb (queue_count t) 0 e)

module _ (t : List ℕ) (k : Turning t) (u : List ℕ) where
  pub search_end : (front : Option Lane) → (Break front, u) ≡ look_front t → (front, u) ≡ run_down t
  unfolding run_down run_down_within after_look
  search_end front e = go (queue_count t) refl
    where
      pairs : ◌≡◌ {A = ControlFlow (Option Lane) (Unit {0}) × List ℕ} (Break front, u) (Break None, t) → ◌≡◌ {A = Option Lane × List ℕ} (front, u) (None, t)
      pairs p = ap (λ (o : ControlFlow (Option Lane) (Unit {0}) × List ℕ). after_look o (None, t)) p

      go : (n : ℕ) → queue_count t ≡ n → (front, u) ≡ run_down_within n t
      go zero z = pairs (e ∙ none_queued t z)
      go (suc n) z = ap (λ (o : ControlFlow (Option Lane) (Unit {0}) × List ℕ). after_look o (run_down_within n (look_front t).1)) e

  module _ (e : (Continue tt, u) ≡ look_front t) where
    pub look_keeps : Keeps t u
    look_keeps = subst (λ (o : ControlFlow (Option Lane) (Unit {0}) × List ℕ). Keeps t o.1) (sym e) (look_front_looked t k).keeps

    pub look_fewer : queue_count u + 1 ≡ queue_count t
    look_fewer = subst (λ (o : ControlFlow (Option Lane) (Unit {0}) × List ℕ). o.0 ≡ Continue tt → queue_count o.1 + 1 ≡ queue_count t) (sym e) (look_front_looked t k).fewer refl

    pub search_on : run_down u ≡ run_down t
    unfolding run_down run_down_within after_look
    search_on = go (queue_count t) (queue_count u) look_fewer
      where
        go : (n m : ℕ) → m + 1 ≡ n → run_down_within m u ≡ run_down_within n t
        go zero m z = absurd (omega arith)
        go (suc n) m z =
            let q : m ≡ n = omega arith in
            rw q (ap (λ (o : ControlFlow (Option Lane) (Unit {0}) × List ℕ). after_look o (run_down_within n o.1)) e)

-- what a search keeps, and what it comes to
pub record Searched (t : List ℕ) (o : Option Lane × List ℕ) : Type 0 where
  pub keeps : Keeps t o.1
  pub reached : Reached o

searched_within : (n : ℕ) (t : List ℕ) → Turning t → queue_count t ≡ n → Searched t (run_down_within n t)
unfolding run_down_within after_look
searched_within zero t k e = record { keeps = keeps_self t k; reached = record { turning = k; none_queued = e } }
searched_within (suc n) t k e = go (λ u m f. searched_within n u m f) (look_front t) (look_front_looked t k) (look_front_found t k)
  where
    one_less : {m : ℕ} → m + 1 ≡ queue_count t → m ≡ n
    one_less f = omega arith

    go : ((u : List ℕ) → Turning u → queue_count u ≡ n → Searched u (run_down_within n u)) → (o : ControlFlow (Option Lane) (Unit {0}) × List ℕ) → Looked t o → Found o
        → Searched t (after_look o (run_down_within n o.1))
    go ih (Break front, u) a b = record { keeps = a.keeps; reached = b }
    go ih (Continue done, u) a b =
        let s = ih u a.keeps.turning (one_less (a.fewer refl)) in
        record { keeps = keeps_then a.keeps s.keeps; reached = s.reached }

pub run_down_searched : (t : List ℕ) → Turning t → Searched t (run_down t)
unfolding run_down
run_down_searched t k = searched_within (queue_count t) t k refl

-- ---- with the collections

module _ (o : Option Lane × List ℕ) (f : List ℕ → Option Lane × List ℕ) (u : List ℕ) where
  else_ready : (l : Lane) → (Some l, u) ≡ o → (Some l, u) ≡ else_front o f
  unfolding else_front
  else_ready l e = ap (λ (p : Option Lane × List ℕ). else_front p f) e

  else_none : (None, u) ≡ o → f u ≡ else_front o f
  unfolding else_front
  else_none e = ap (λ (p : Option Lane × List ℕ). else_front p f) e

else_searched : (t : List ℕ) (o : Option Lane × List ℕ) (f : List ℕ → Option Lane × List ℕ) → Searched t o → ((u : List ℕ) → Turning u → Searched u (f u)) → Searched t (else_front o f)
unfolding else_front
else_searched t (Some l, u) f s k = s
else_searched t (None, u) f s k =
    let n = k u s.keeps.turning in
    record { keeps = keeps_then s.keeps n.keeps; reached = n.reached }

after_searched : {t u : List ℕ} {o : Option Lane × List ℕ} → Keeps t u → Searched u o → Searched t o
after_searched a s = record { keeps = keeps_then a s.keeps; reached = s.reached }

pub refresh_searched : (t : List ℕ) → Turning t → Searched t (refresh_active t)
unfolding refresh_active
refresh_searched t k =
    let d = due_keeps t k in
    else_searched t (run_down (collect_if_due t)) (λ u. run_down (collect_ready true u)) (after_searched d (run_down_searched (collect_if_due t) d.turning))
    (λ u m. let c = collect_keeps true u m in after_searched c (run_down_searched (collect_ready true u) c.turning))

-- what the code has for the front lane, refilled
pub look_as : (t : List ℕ) (slot : ℕ) (l : Lane) (p : Result Lane EmptyLane) → slot ≡ front_slot t → l ≡ lane_at t slot → p ≡ refill l → refill (front_lane t) ≡ p
look_as t slot l p a b e = sym (e ∙ ap refill (b ∙ ap (lane_at t) a))

-- what is left of the search, before and after every ready lane is collected
pub search_rest : Bool → List ℕ → Option Lane × List ℕ
search_rest false t = else_front (run_down t) (λ u. run_down (collect_ready true u))
search_rest true t = run_down t

module _ (t u : List ℕ) where
  pub rest_ready : (collected : Bool) (l : Lane) → (Some l, u) ≡ run_down t → (Some l, u) ≡ search_rest collected t
  unfolding search_rest
  rest_ready false l e = else_ready (run_down t) (λ u. run_down (collect_ready true u)) u l e
  rest_ready true l e = e

  pub rest_none : (collected : Bool) → collected ≡ true → (None, u) ≡ run_down t → (None, u) ≡ search_rest collected t
  unfolding search_rest
  rest_none collected c e = e ∙ ap (λ (b : Bool). search_rest b t) (sym c)

  pub rest_collects : (collected : Bool) → collected ≡ false → (None, u) ≡ run_down t → search_rest true (collect_ready true u) ≡ search_rest collected t
  unfolding search_rest
  rest_collects collected c e = else_none (run_down t) (λ u. run_down (collect_ready true u)) u e ∙ ap (λ (b : Bool). search_rest b t) (sym c)

pub rest_starts : (t : List ℕ) → search_rest false (collect_if_due t) ≡ refresh_active t
unfolding search_rest refresh_active
rest_starts t = refl

-- what a search keeps, whatever it found
pub run_keeps : (t u : List ℕ) (front : Option Lane) → Turning t → (front, u) ≡ run_down t → Keeps t u
run_keeps t u front k e = subst (λ (o : Option Lane × List ℕ). Keeps t o.1) (sym e) (run_down_searched t k).keeps
