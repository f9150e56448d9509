-- What the turns of a receive keep of the table.
-- Assumes nothing.
use mathlib.Core.Path.{◌≡◌, refl, sym, ap, ◌∙◌, subst}
use mathlib.Core.Logic.{◌≢◌}
use mathlib.Core.Bool.{cond}
use mathlib.Core.List.{List, ◌∷◌}
use Prim.Native.Nat.{ℕ, zero, suc, ◌+◌, ◌*◌, ◌≤◌, ◌<◌}
use native.Mathlib.Nat.{mul-le-mul_right}
use native.Mathlib.Omega.{arith}
use borrow.Author.Tests.{eq-eqb}
use lib.Dec.{eqb}
use lib.ListN.{length}
use Rattle.model.specs.Lists.{count}
use Rattle.demands.proofs.Counting.{equal, other, same?, same_self}
use Rattle.lane.specs.declared.lane.Lane.{Lane}
use Rattle.yring.specs.Ring.{new_ring, Within}
use Rattle.lane.specs.Order.{InOrder}
use Rattle.lane.specs.Table.{lane_at}
use Rattle.lane.proofs.OrderLaws.{cond_holds}
use Rattle.lane.proofs.TableLaws.{frames}
use Rattle.queues.specs.Header.{Shaped, issued, slots, queue_count, free_count, budget, capacity, lane_count, set_budget}
use Rattle.queues.specs.Queue.{QueueNames, queue_of, front_slot, pop_front}
use Rattle.queues.specs.Registry.{free_of}
use Rattle.ready.specs.Ready.{Linked}
use Rattle.queues.proofs.Pigeonhole.{pigeonhole_less}
use Rattle.queues.proofs.QueueLaws.{queue_frames, queue_front_lem, shaped_set_head}
use Rattle.queues.proofs.NamesLaws.{names_same}
use Rattle.queues.proofs.RegistryLaws.{registry_frames, length_free}
use Rattle.store.specs.View.{flag}
use Rattle.turns.specs.Turn.{registered_in, Turning, Ringed, meet_budget}
use Rattle.store.proofs.CountLaws.{one, passing_same, passing_but, passing_some}
use Rattle.store.proofs.HeaderWords.{place_of}
use Rattle.store.proofs.StepLaws.{Step, lanes_now, linked_by, issued_kept, capacity_kept}

-- ---- what a registered lane gives

module _ (t : List ℕ) (k : Turning t) (x : ℕ) (h : x < issued t) where
  pub slot_below : x < slots t
  slot_below = omega (arith, k.shaped.issued_most)

  pub ring_in : (r : List ℕ) → Ringed t r → Within (new_ring x (capacity t)) (length r)
  ring_in r g = record { power = k.power; fits = omega (arith, fits x (slots t) (capacity t) slot_below, g) }
    where
      fits : (x s c : ℕ) → x < s → x * c + c ≤ s * c
      fits x s c h = let e : suc x * c ≡ x * c + c = omega arith in rw e at (mul-le-mul_right c h)

  module _ (e : (lane_at t x).registered ≡ 1) where
    pub some_lane : 0 < lane_count t
    unfolding registered_in
    some_lane = omega (arith, k.counted, passing_some (λ y. flag (lane_at t y).registered) x 0 (issued t) (omega arith) (omega arith) (eq-eqb _ _ e))

    pub not_free : count x (free_of t) ≡ 0
    not_free = go (count x (free_of t)) (λ l. k.free_unregistered x l e)
      where
        go : (n : ℕ) → (1 ≤ n → ⊥) → n ≡ 0
        go zero f = refl
        go (suc n) f = absurd (f (omega arith))

    pub free_room : free_count t < slots t
    free_room =
        omega (arith, length_free t, k.shaped.issued_most, pigeonhole_less (issued t) (free_of t) x k.free_once k.free_issued h not_free)

-- ---- the front lane

module _ (t : List ℕ) (k : Turning t) (some : queue_count t ≡ 0 → ⊥) where
  pub queue_is : queue_of t ≡ front_slot t ∷ queue_of (pop_front t)
  queue_is = queue_front_lem t k.shaped (omega (arith, some))

  named : 1 ≤ count (front_slot t) (queue_of t)
  unfolding count
  named = rw queue_is (omega (arith, same_self (front_slot t)))

  pub front_issued : front_slot t < issued t
  front_issued = k.names.issued_only (front_slot t) named

  pub front_registered : (lane_at t (front_slot t)).registered ≡ 1
  front_registered = k.queued_registered (front_slot t) named

  pub front_alone : count (front_slot t) (queue_of (pop_front t)) ≡ 0
  unfolding count
  front_alone = omega (arith, ap (count (front_slot t)) queue_is, same_self (front_slot t), k.names.once (front_slot t))

  pub front_ordered : InOrder (capacity t) (lane_at t (front_slot t))
  front_ordered = k.lanes (front_slot t) front_issued front_registered

-- ---- a run of stores that changes one lane

module _ {t u : List ℕ} {x : ℕ} {l : Lane} {w : List ℕ} {hd : ℕ → ℕ} (k : Turning t) (s : Step t u x l w hd) (h : x < issued t) where
  lane_case : (P : ℕ → Lane → Type 0) → P x l → ((y : ℕ) → x ≢ y → P y (lane_at t y)) → (y : ℕ) → P y (lane_at u y)
  lane_case P own others y = elim (same? x y) [
    | equal e p i ↦ subst (λ (z : ℕ). P z (lane_at u z)) e (subst (P x) (sym s.own) own)
    | other d p i ↦ subst (P y) (sym (s.others y d)) (others y d)
  ]

  counted_step : hd (place_of lane_count) + one (flag (lane_at t x).registered) ≡ lane_count t + one (flag l.registered) → lane_count u ≡ registered_in u
  unfolding registered_in
  counted_step e =
      let c = passing_but (λ y. flag (lane_at u y).registered) (λ y. flag (lane_at t y).registered) x 0 (issued t) (omega arith) (omega arith)
      (λ y d. ap (λ (z : Lane). flag z.registered) (s.others y d)) in
      let o : one (flag (lane_at u x).registered) ≡ one (flag l.registered) = ap (λ (z : Lane). one (flag z.registered)) s.own in
      rw (issued_kept s) (omega (arith, lanes_now s, k.counted, c, o, e))

  -- the lane's own place in the queue and in the free list; the other lanes have theirs
  pub turning_step : (l.registered ≡ 1 → InOrder (capacity t) l)
      → ((y : ℕ) → x ≢ y → count y w ≡ count y (queue_of t)) → count x w ≤ 1 → (1 ≤ count x w → l.registered ≡ 1) → (l.registered ≡ 1 → l.queued ≡ count x w)
      → ((y : ℕ) → x ≢ y → count y (free_of u) ≡ count y (free_of t)) → count x (free_of u) ≤ 1 → (1 ≤ count x (free_of u) → l.registered ≡ 1 → ⊥)
      → hd (place_of lane_count) + one (flag (lane_at t x).registered) ≡ lane_count t + one (flag l.registered) → Turning u
  turning_step o wo w1 wr wq fo f1 fr c =
      record {
        shaped = s.shaped;
        power = rw (capacity_kept s) k.power;
        names =
            record {
              once = λ y. rw s.queue (once y);
              issued_only = λ y a. rw (issued_kept s) (only y (rw s.queue at a));
              flagged = λ y a. rw s.queue (flagged y (rw (issued_kept s) at a));
            };
        linked = s.linked;
        lanes = λ y a. rw (capacity_kept s) (ordered y (rw (issued_kept s) at a));
        queued_registered = λ y a. registered y (rw s.queue at a);
        free_once = λ y. elim (same? x y) [
          | equal e p i ↦ rw (← e) f1
          | other d p i ↦ rw (fo y d) (k.free_once y)
        ];
        free_issued = λ y a. rw (issued_kept s) (elim (same? x y) [
          | equal e p i ↦ rw (← e) h
          | other d p i ↦ k.free_issued y (rw (fo y d) at a)
        ]);
        free_unregistered = unregistered;
        counted = counted_step c;
      }
    where
      once : (y : ℕ) → count y w ≤ 1
      once y = elim (same? x y) [
        | equal e p i ↦ rw (← e) w1
        | other d p i ↦ rw (wo y d) (k.names.once y)
      ]

      only : (y : ℕ) → 1 ≤ count y w → y < issued t
      only y a = elim (same? x y) [
        | equal e p i ↦ rw (← e) h
        | other d p i ↦ k.names.issued_only y (rw (wo y d) at a)
      ]

      flagged : (y : ℕ) → y < issued t → (lane_at u y).registered ≡ 1 → (lane_at u y).queued ≡ count y w
      flagged =
          lane_case (λ (y : ℕ) (z : Lane). y < issued t → z.registered ≡ 1 → z.queued ≡ count y w) (λ a e. wq e) (λ y d a e. k.names.flagged y a e ∙ sym (wo y d))

      ordered : (y : ℕ) → y < issued t → (lane_at u y).registered ≡ 1 → InOrder (capacity t) (lane_at u y)
      ordered = lane_case (λ (y : ℕ) (z : Lane). y < issued t → z.registered ≡ 1 → InOrder (capacity t) z) (λ a e. o e) (λ y d a e. k.lanes y a e)

      registered : (y : ℕ) → 1 ≤ count y w → (lane_at u y).registered ≡ 1
      registered = lane_case (λ (y : ℕ) (z : Lane). 1 ≤ count y w → z.registered ≡ 1) wr (λ y d a. k.queued_registered y (rw (wo y d) at a))

      unregistered : (y : ℕ) → 1 ≤ count y (free_of u) → (lane_at u y).registered ≡ 1 → ⊥
      unregistered =
          lane_case (λ (y : ℕ) (z : Lane). 1 ≤ count y (free_of u) → z.registered ≡ 1 → ⊥) fr (λ y d a. k.free_unregistered y (rw (fo y d) at a))

-- ---- a table with the same lanes registered

module _ (t u : List ℕ) (k : Turning t) (i : issued u ≡ issued t) (r : (y : ℕ) → (lane_at u y).registered ≡ (lane_at t y).registered) where
  counted_same : lane_count u ≡ lane_count t → lane_count u ≡ registered_in u
  unfolding registered_in
  counted_same n =
      rw i (n ∙ k.counted ∙ passing_same (λ y. flag (lane_at t y).registered) (λ y. flag (lane_at u y).registered) 0 (issued t) (λ y a b. ap flag (sym (r y))))

  pub turning_by : Shaped u → QueueNames u → Linked u → capacity u ≡ capacity t → free_of u ≡ free_of t → lane_count u ≡ lane_count t
      → ((y : ℕ) → (lane_at t y).registered ≡ 1 → InOrder (capacity t) (lane_at t y) → InOrder (capacity t) (lane_at u y))
      → ((y : ℕ) → 1 ≤ count y (queue_of u) → (lane_at u y).registered ≡ 1) → Turning u
  turning_by s q l C f n o g =
      record {
        shaped = s;
        power = rw C k.power;
        names = q;
        linked = l;
        lanes = λ y h e. rw C (o y (sym (r y) ∙ e) (k.lanes y (rw i at h) (sym (r y) ∙ e)));
        queued_registered = g;
        free_once = λ y. rw f (k.free_once y);
        free_issued = λ y h. rw i (k.free_issued y (rw f at h));
        free_unregistered = λ y h e. k.free_unregistered y (rw f at h) (sym (r y) ∙ e);
        counted = counted_same n;
      }

-- the budget is no matter of it
module _ (t : List ℕ) (k : Turning t) (v : ℕ) where
  pub turning_budget : Turning (set_budget t v)
  turning_budget =
      turning_by t (set_budget t v) k (simp frames) (λ y. simp frames) (shaped_set_head t k.shaped 5 v refl refl refl refl refl refl)
      (names_same t (set_budget t v) k.names (simp frames) (λ y. simp frames) (λ y. simp queue_frames))
      (linked_by t (set_budget t v) (simp frames) (λ y. simp frames) (λ y. simp frames) k.linked) (simp frames) (simp registry_frames) (simp frames)
      (λ y e o. simp frames o) (simp (frames, queue_frames) k.queued_registered)

pub turning_met : (t : List ℕ) → Turning t → Turning (meet_budget t)
unfolding meet_budget
turning_met t k =
    cond_holds Turning (eqb (queue_count t) 0) t (cond (eqb (budget t) 0) (set_budget t 64) t) (λ e. k)
    (λ e. cond_holds Turning (eqb (budget t) 0) (set_budget t 64) t (λ f. turning_budget t k 64) (λ f. k))
