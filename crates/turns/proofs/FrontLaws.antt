-- One turn at the front, and turn after turn: what they leave.
-- Assumes nothing.
use Rattle.std.specs.Prelude.{Option, Some, None, Result, Ok, Err}
use mathlib.Core.Path.{◌≡◌, refl, sym, ap, ap₂, ◌∙◌, subst}
use mathlib.Core.Logic.{◌≢◌}
use mathlib.Core.Bool.{Bool, true, false, cond}
use mathlib.Core.List.{List, [], ◌∷◌, ◌++◌}
use Prim.Native.Nat.{ℕ, zero, suc, ◌+◌, ◌-◌, ◌<◌}
use native.Mathlib.Omega.{arith}
use borrow.Author.Tests.{eq-eqb, ne_eqb, eqb-false}
use lib.Dec.{eqb, ltb}
use lib.ListN.{length}
use Rattle.model.specs.Lists.{count}
use Rattle.demands.proofs.Counting.{count_append}
use Rattle.demands.proofs.OrderKept.{first_own, first_other}
use Rattle.lane.specs.declared.lane.Lane.{Lane}
use Rattle.lane.specs.declared.lane.EmptyLane.{EmptyLane}
use Rattle.lane.specs.declared.lane.LanePoll.{LanePoll}
use Rattle.yring.specs.Ring.{new_ring}
use Rattle.lane.specs.Order.{InOrder, polled_lane}
use Rattle.lane.specs.Lane.{poll}
use Rattle.yring.specs.declared.ring.Ring.{Ring}
use Rattle.lane.specs.Table.{header_words, head, NarrowLane, lane_at, put_lane}
use Rattle.lane.proofs.OrderLaws.{cond_holds, order_narrow, poll_keeps}
use Rattle.lane.proofs.TableLaws.{frames, slot_of_lane}
use Rattle.queues.specs.Header.{Shaped, issued, slots, queue_count, free_count, budget, capacity, lane_count, set_budget, set_lane_count}
use Rattle.queues.specs.Queue.{queue_of, front_slot, pop_front, rotate_left}
use Rattle.queues.specs.Registry.{free_of, free}
use Rattle.queues.proofs.QueueLaws.{queue_frames, header_in}
use Rattle.queues.proofs.RegistryLaws.{registry_frames, length_free, free_freed}
use Rattle.store.specs.View.{flag}
use Rattle.store.specs.Registry.{retired, retire_lane}
use Rattle.turns.specs.declared.turn.Took.{Took}
use Rattle.turns.specs.Turn.{Turning, Ringed, retire_if, settle_empty_front, meet_budget, less_one, rotate_if, gave_front, turn_by, poll_front, after_turn, turns_within, turns}
use Rattle.store.proofs.CountLaws.{one}
use Rattle.store.proofs.HeaderWords.{place_of, with_word}
use Rattle.store.proofs.StepLaws.{Step, slots_kept, lanes_now, step_from, step_put_lane, step_popped_front, step_rotated, step_freed, step_budget, step_lane_count}
use Rattle.store.proofs.RetireFrames.{freed_unless_last_is, length_retire_lane}
use Rattle.store.proofs.LaneFields.{Fixed, Flagged, flagged, Emptied, PollKept, poll_kept}
use Rattle.turns.proofs.TurnLaws.{slot_below, some_lane, not_free, free_room, queue_is, front_issued, front_registered, front_alone, front_ordered, turning_step, turning_met}
use Rattle.std.specs.declared.ops.ControlFlow.{ControlFlow}
use Rattle.std.specs.declared.ops.ControlFlow.TheVariants.{Continue, Break}

-- ---- retiring a lane that is in no queue

module _ {t u : List ℕ} {x : ℕ} {l : Lane} {w : List ℕ} {hd : ℕ → ℕ} (k : Turning t) (s : Step t u x l w hd) (h : x < issued t) (e : (lane_at t x).registered ≡ 1)
    (g : Lane) (at : g.key.slot ≡ x) (fits : NarrowLane g) (others : (y : ℕ) → x ≢ y → count y w ≡ count y (queue_of t)) (gone : count x w ≡ 0) (kept : free_of u ≡ free_of t) (lanes : hd (place_of lane_count) ≡ lane_count t) where
  abbrev lowered : List ℕ
  lowered = set_lane_count (put_lane u (retired g)) (lane_count u - 1)

  step_lowered : Step t lowered x (retired g) w (with_word lane_count (lane_count u - 1) hd)
  step_lowered = step_lane_count (step_put_lane s (retired g) at fits h) (lane_count u - 1)

  one_less : lane_count u - 1 + one (flag (lane_at t x).registered) ≡ lane_count t + 0
  one_less =
      let o : one (flag (lane_at t x).registered) ≡ 1 = ap (λ (z : ℕ). one (flag z)) e in
      omega (arith, lanes_now s, lanes, o, some_lane t k x h e)

  free_lowered : free_of lowered ≡ free_of t
  free_lowered = let a : free_of lowered ≡ free_of u = simp registry_frames in a ∙ kept

  room_lowered : free_count lowered < slots lowered
  room_lowered = omega (arith, ap length free_lowered, slots_kept step_lowered, free_length lowered, free_length t, free_room t k x h e)
    where
      free_length : (v : List ℕ) → length (free_of v) ≡ free_count v
      free_length v = length_free v

  zero_one : {A : Type 0} → ◌≡◌ {A = ℕ} 0 1 → A
  zero_one z = absurd (omega arith)

  pub turning_retire : Turning (retire_lane u g)
  unfolding retire_lane
  turning_retire =
      freed_unless_last_is lowered g Turning
      (turning_step k step_lowered h (λ z. zero_one z) others (omega (arith, gone)) (λ z. absurd (omega (arith, gone))) (λ z. zero_one z)
      (λ y d. ap (count y) free_lowered) (rw free_lowered (k.free_once x)) (λ z i. zero_one i) one_less)
      (turning_step k (step_freed step_lowered g.key.slot room_lowered) h (λ z. zero_one z) others (omega (arith, gone)) (λ z. absurd (omega (arith, gone))) (λ z. zero_one z)
      (λ y d. ap (count y) free_more ∙ first_other x y (free_of t) d) (omega (arith, ap (count x) free_more, first_own x (free_of t), not_free t k x h e)) (λ z i. zero_one i) one_less)
    where
      free_more : free_of (free lowered g.key.slot) ≡ x ∷ free_of t
      free_more = free_freed lowered step_lowered.shaped g.key.slot room_lowered ∙ ap₂ ◌∷◌ at free_lowered

-- ---- a turn

module _ (t : List ℕ) (k : Turning t) (some : queue_count t ≡ 0 → ⊥) where
  abbrev x : ℕ
  x = front_slot t

  abbrev rest : List ℕ
  rest = queue_of (pop_front t)

  begun : Step t t x (lane_at t x) (queue_of t) (head t)
  begun = step_from t k.shaped k.linked x

  rest_others : (y : ℕ) → x ≢ y → count y rest ≡ count y (queue_of t)
  rest_others y d = sym (ap (count y) (queue_is t k some) ∙ first_other x y rest d)

  -- the front lane, found empty
  module _ (found : EmptyLane) (e : Emptied (lane_at t x) found) (o : InOrder (capacity t) found.lane) where
    abbrev l : Lane
    l = found.lane

    pub left_slot : l.key.slot ≡ x
    left_slot = ap (λ (z : Fixed). z.0.slot) e.0 ∙ slot_of_lane t x

    left_narrow : NarrowLane l
    left_narrow = order_narrow (capacity t) k.power.most l o

    left_registered : l.registered ≡ 1
    left_registered = ap (λ (z : Fixed). z.1) e.0 ∙ front_registered t k some

    step_left : Step t (pop_front (put_lane t l)) x l rest (head t)
    step_left = step_popped_front (step_put_lane begun l left_slot left_narrow (front_issued t k some)) x rest (queue_is t k some)

    free_left : free_of (pop_front (put_lane t l)) ≡ free_of t
    free_left = simp registry_frames

    turning_settled : Turning (pop_front (put_lane t l))
    turning_settled =
        let z = front_alone t k some in
        turning_step k step_left (front_issued t k some) (λ i. o) rest_others (omega (arith, z)) (λ i. absurd (omega (arith, z))) (λ i. e.1 ∙ sym z)
        (λ y d. ap (count y) free_left) (rw free_left (k.free_once x)) (λ i j. k.free_unregistered x (rw free_left at i) (front_registered t k some))
        (ap₂ (λ (a c : ℕ). lane_count t + one (flag a)) (front_registered t k some ∙ sym left_registered) left_registered)

    pub turning_left : Turning (settle_empty_front t found)
    unfolding settle_empty_front retire_if
    turning_left =
        cond_holds Turning found.disconnected (retire_lane (pop_front (put_lane t l)) l) (pop_front (put_lane t l))
        (λ d. turning_retire k step_left (front_issued t k some) (front_registered t k some) l left_slot left_narrow rest_others (front_alone t k some) free_left refl) (λ d. turning_settled)

  -- the front lane, with an item less
  module _ (rotate : Bool) (l : Lane) (e : flagged l ≡ flagged (lane_at t x)) (o : InOrder (capacity t) l) where
    pub gave_slot : l.key.slot ≡ x
    gave_slot = ap (λ (z : Flagged). z.0.slot) e ∙ slot_of_lane t x

    gave_registered : l.registered ≡ 1
    gave_registered = ap (λ (z : Flagged). z.1) e ∙ front_registered t k some

    step_given : Step t (put_lane t l) x l (queue_of t) (head t)
    step_given = step_put_lane begun l gave_slot (order_narrow (capacity t) k.power.most l o) (front_issued t k some)

    counts_turned : (y : ℕ) → count y (rest ++ (x ∷ [])) ≡ count y (queue_of t)
    unfolding count
    counts_turned y = count_append y rest (x ∷ []) ∙ sym (ap (count y) (queue_is t k some) ∙ omega arith)

    queued_given : l.queued ≡ count x (queue_of t)
    queued_given = ap (λ (z : Flagged). z.4) e ∙ k.names.flagged x (front_issued t k some) (front_registered t k some)

    given_by : (u w : List ℕ) (b : ℕ) → Step t u x l w (with_word budget b (head t)) → ((y : ℕ) → count y w ≡ count y (queue_of t)) → free_of u ≡ free_of t → Turning u
    given_by u w b s c f =
        turning_step k s (front_issued t k some) (λ i. o) (λ y d. c y) (rw (c x) (k.names.once x)) (λ i. gave_registered) (λ i. queued_given ∙ sym (c x))
        (λ y d. ap (count y) f) (rw f (k.free_once x)) (λ i j. k.free_unregistered x (rw f at i) (front_registered t k some))
        (ap (λ (a : ℕ). lane_count t + one (flag a)) (front_registered t k some ∙ sym gave_registered))

    pub turning_gave : Turning (gave_front t rotate l)
    unfolding gave_front rotate_if
    turning_gave = go rotate
      where
        go : (r : Bool) → Turning (set_budget (cond r (rotate_left (put_lane t l)) (put_lane t l)) (less_one (budget t)))
        go true =
            given_by _ (rest ++ (x ∷ [])) (less_one (budget t)) (step_budget (step_rotated step_given x rest (queue_is t k some)) (less_one (budget t))) counts_turned (simp registry_frames)
        go false = given_by _ (queue_of t) (less_one (budget t)) (step_budget step_given (less_one (budget t))) (λ y. refl) (simp registry_frames)

-- ---- what a receive keeps besides: the lengths and sizes

pub record Keeps (t u : List ℕ) : Type 0 where
  pub turning : Turning u
  pub long : length u ≡ length t
  pub same_slots : slots u ≡ slots t
  pub same_capacity : capacity u ≡ capacity t

pub keeps_self : (t : List ℕ) → Turning t → Keeps t t
keeps_self t k = record { turning = k; long = refl; same_slots = refl; same_capacity = refl }

pub keeps_then : {t u v : List ℕ} → Keeps t u → Keeps u v → Keeps t v
keeps_then a b =
    record {
      turning = b.turning;
      long = b.long ∙ a.long;
      same_slots = b.same_slots ∙ a.same_slots;
      same_capacity = b.same_capacity ∙ a.same_capacity;
    }

pub keeps_ringed : {t u : List ℕ} → Keeps t u → (r : List ℕ) → Ringed t r → Ringed u r
keeps_ringed a r g = rw (a.same_slots, a.same_capacity) g

pub head_retired : (t : List ℕ) (l : Lane) (j : ℕ) → ltb j header_words ≡ true → eqb 3 j ≡ false → eqb 13 j ≡ false → head (retire_lane t l) j ≡ head t j
unfolding retire_lane
head_retired t l j a b c =
    freed_unless_last_is (set_lane_count (put_lane t (retired l)) (lane_count t - 1)) l (λ u. head u j ≡ head t j) (simp (frames, a, c)) (simp (registry_frames, frames, a, b, c))

module _ (t : List ℕ) (found : EmptyLane) where
  abbrev settled : List ℕ
  settled = pop_front (put_lane t found.lane)

  pub head_left : (j : ℕ) → ltb j header_words ≡ true → eqb 1 j ≡ false → eqb 2 j ≡ false → eqb 3 j ≡ false → eqb 13 j ≡ false → head (settle_empty_front t found) j ≡ head t j
  unfolding settle_empty_front retire_if
  head_left j a b c d e =
      let s : head settled j ≡ head t j = simp (queue_frames, frames, a, b, c) in
      cond_holds (λ (u : List ℕ). head u j ≡ head t j) found.disconnected (retire_lane settled found.lane) settled (λ i. head_retired settled found.lane j a d e ∙ s) (λ i. s)

  pub length_left : length (settle_empty_front t found) ≡ length t
  unfolding settle_empty_front retire_if
  length_left =
      let s : length settled ≡ length t = simp (queue_frames, frames) in
      cond_holds (λ (u : List ℕ). length u ≡ length t) found.disconnected (retire_lane settled found.lane) settled (λ i. length_retire_lane settled found.lane ∙ s) (λ i. s)

  pub count_left : Shaped t → queue_count (settle_empty_front t found) ≡ queue_count t - 1
  unfolding settle_empty_front retire_if
  count_left s =
      let o : queue_count settled ≡ queue_count t - 1 = simp (queue_frames, frames, header_in t s) in
      cond_holds (λ (u : List ℕ). queue_count u ≡ queue_count t - 1) found.disconnected (retire_lane settled found.lane) settled
      (λ i. head_retired settled found.lane 2 refl refl refl ∙ o) (λ i. o)

pub head_met : (t : List ℕ) (j : ℕ) → eqb 5 j ≡ false → head (meet_budget t) j ≡ head t j
unfolding meet_budget
head_met t j e =
    cond_holds (λ (u : List ℕ). head u j ≡ head t j) (eqb (queue_count t) 0) t (cond (eqb (budget t) 0) (set_budget t 64) t) (λ i. refl)
    (λ i. cond_holds (λ (u : List ℕ). head u j ≡ head t j) (eqb (budget t) 0) (set_budget t 64) t (λ f. simp (frames, e)) (λ f. refl))

pub length_met : (t : List ℕ) → length (meet_budget t) ≡ length t
unfolding meet_budget
length_met t =
    cond_holds (λ (u : List ℕ). length u ≡ length t) (eqb (queue_count t) 0) t (cond (eqb (budget t) 0) (set_budget t 64) t) (λ i. refl)
    (λ i. cond_holds (λ (u : List ℕ). length u ≡ length t) (eqb (budget t) 0) (set_budget t 64) t (λ f. simp frames) (λ f. refl))

module _ (t : List ℕ) (rotate : Bool) (l : Lane) where
  abbrev given : List ℕ
  given = set_budget (rotate_if rotate (put_lane t l)) (less_one (budget t))

  given_is : (P : List ℕ → Type 0) → P (set_budget (rotate_left (put_lane t l)) (less_one (budget t))) → P (set_budget (put_lane t l) (less_one (budget t))) → P (gave_front t rotate l)
  unfolding gave_front rotate_if
  given_is P p q = go rotate
    where
      go : (r : Bool) → P (set_budget (cond r (rotate_left (put_lane t l)) (put_lane t l)) (less_one (budget t)))
      go true = p
      go false = q

  pub head_gave : (j : ℕ) → ltb j header_words ≡ true → eqb 1 j ≡ false → eqb 5 j ≡ false → head (gave_front t rotate l) j ≡ head t j
  head_gave j a b c = given_is (λ u. head u j ≡ head t j) (simp (frames, queue_frames, a, b, c)) (simp (frames, a, c))

  pub length_gave : length (gave_front t rotate l) ≡ length t
  length_gave = given_is (λ u. length u ≡ length t) (simp (frames, queue_frames)) (simp frames)

-- ---- one turn

abbrev pub polled_front : List ℕ → List ℕ → Bool → Result LanePoll EmptyLane
polled_front t r fair = poll (new_ring (front_slot t) (capacity t)) r fair (lane_at t (front_slot t))

pub polled_as : (t r : List ℕ) (fair : Bool) (slot : ℕ) (ring : Ring) (l : Lane) (p : Result LanePoll EmptyLane) → slot ≡ front_slot t → ring ≡ new_ring slot (capacity t) → l ≡ lane_at t slot
    → p ≡ poll ring r fair l → p ≡ polled_front t r fair
polled_as t r fair slot ring l p a b c e = e ∙ ap₂ (λ (x : Ring) (m : Lane). poll x r fair m) (b ∙ ap (λ (x : ℕ). new_ring x (capacity t)) a) (c ∙ ap (lane_at t) a)

pub record Turned (t : List ℕ) (o : ControlFlow (Option Took) (Unit {0}) × List ℕ) : Type 0 where
  pub keeps : Keeps t o.1
  pub fewer : o.0 ≡ Continue tt → queue_count o.1 + 1 ≡ queue_count t

module _ (t r : List ℕ) (fair : Bool) (k : Turning t) where
  module _ (some : queue_count t ≡ 0 → ⊥) where
    poll_ordered : InOrder (capacity t) (polled_lane (polled_front t r fair))
    poll_ordered = poll_keeps (new_ring (front_slot t) (capacity t)) k.power.most r (lane_at t (front_slot t)) (front_ordered t k some) fair

    turned_by : (p : Result LanePoll EmptyLane) → PollKept (lane_at t (front_slot t)) p → InOrder (capacity t) (polled_lane p) → Turned t (turn_by t p)
    unfolding turn_by
    turned_by (Ok p) e o =
        record {
          keeps = record {
            turning = turning_gave t k some p.rotate p.lane e o;
            long = length_gave t p.rotate p.lane;
            same_slots = head_gave t p.rotate p.lane 4 refl refl refl;
            same_capacity = head_gave t p.rotate p.lane 8 refl refl refl;
          };
          fewer = λ z. cc;
        }
    turned_by (Err found) e o =
        record {
          keeps = record {
            turning = turning_met (settle_empty_front t found) (turning_left t k some found e o);
            long = length_met (settle_empty_front t found) ∙ length_left t found;
            same_slots = head_met (settle_empty_front t found) 4 refl ∙ head_left t found 4 refl refl refl refl refl;
            same_capacity = head_met (settle_empty_front t found) 8 refl ∙ head_left t found 8 refl refl refl refl refl;
          };
          fewer = λ z. omega (arith, head_met (settle_empty_front t found) 2 refl, count_left t found k.shaped, some);
        }

    -- what the two cases ask of the code
    pub left_room : (found : EmptyLane) → polled_front t r fair ≡ Err found
        → Shaped t × (found.lane.key.slot < slots t) × (0 < queue_count t) × (free_count t < slots t) × (0 < lane_count t)
    left_room found e =
        let i = subst (PollKept (lane_at t (front_slot t))) e (poll_kept (new_ring (front_slot t) (capacity t)) r fair (lane_at t (front_slot t))) in
        let o = subst (λ (p : Result LanePoll EmptyLane). InOrder (capacity t) (polled_lane p)) e poll_ordered in
        let h = front_issued t k some in (
          k.shaped,
          rw (left_slot t k some found i o) (slot_below t k (front_slot t) h),
          omega (arith, some),
          free_room t k (front_slot t) h (front_registered t k some),
          some_lane t k (front_slot t) h (front_registered t k some),
        )

    pub gave_room : (p : LanePoll) → polled_front t r fair ≡ Ok p → Shaped t × (p.lane.key.slot < slots t) × (0 < queue_count t)
    gave_room p e =
        let i = subst (PollKept (lane_at t (front_slot t))) e (poll_kept (new_ring (front_slot t) (capacity t)) r fair (lane_at t (front_slot t))) in
        let o = subst (λ (p : Result LanePoll EmptyLane). InOrder (capacity t) (polled_lane p)) e poll_ordered in
        (k.shaped, rw (gave_slot t k some p.rotate p.lane i o) (slot_below t k (front_slot t) (front_issued t k some)), omega (arith, some))

    pub shaped_left : (found : EmptyLane) → polled_front t r fair ≡ Err found → Shaped (settle_empty_front t found)
    shaped_left found e =
        let i = subst (PollKept (lane_at t (front_slot t))) e (poll_kept (new_ring (front_slot t) (capacity t)) r fair (lane_at t (front_slot t))) in
        (turning_left t k some found i (subst (λ (p : Result LanePoll EmptyLane). InOrder (capacity t) (polled_lane p)) e poll_ordered)).shaped

    pub front_is : (p : Result LanePoll EmptyLane) → polled_front t r fair ≡ p → turn_by t p ≡ poll_front t r fair
    unfolding poll_front
    front_is p e = sym (rw (ne_eqb (queue_count t) 0 some) (ap (turn_by t) e))

  pub poll_front_turned : Turned t (poll_front t r fair)
  unfolding poll_front
  poll_front_turned =
      cond_holds (Turned t) (eqb (queue_count t) 0) (Break None, t) (turn_by t (polled_front t r fair))
      (λ e. record { keeps = keeps_self t k; fewer = λ z. cc })
      (λ e.
      let some = eqb-false (queue_count t) 0 e in
      turned_by some (polled_front t r fair) (poll_kept (new_ring (front_slot t) (capacity t)) r fair (lane_at t (front_slot t))) (poll_ordered some))

-- ---- turn after turn

pub none_queued : (t r : List ℕ) (fair : Bool) → queue_count t ≡ 0 → poll_front t r fair ≡ (Break None, t)
unfolding poll_front
none_queued t r fair e = rw (eq-eqb (queue_count t) 0 e)

module _ (t r : List ℕ) (fair : Bool) (k : Turning t) (u : List ℕ) where
  -- a turn that ends the take
  pub turns_end : (took : Option Took) → (Break took, u) ≡ poll_front t r fair → (took, u) ≡ turns t r fair
  unfolding turns turns_within after_turn
  turns_end took e = go (queue_count t) refl
    where
      pairs : ◌≡◌ {A = ControlFlow (Option Took) (Unit {0}) × List ℕ} (Break took, u) (Break None, t) → ◌≡◌ {A = Option Took × List ℕ} (took, u) (None, t)
      pairs p = ap (λ (o : ControlFlow (Option Took) (Unit {0}) × List ℕ). after_turn o (None, t)) p

      go : (n : ℕ) → queue_count t ≡ n → (took, u) ≡ turns_within n t r fair
      go zero z = pairs (e ∙ none_queued t r fair z)
      go (suc n) z = ap (λ (o : ControlFlow (Option Took) (Unit {0}) × List ℕ). after_turn o (turns_within n (poll_front t r fair).1 r fair)) e

  -- a turn whose lane left
  module _ (e : (Continue tt, u) ≡ poll_front t r fair) where
    pub turn_keeps : Keeps t u
    turn_keeps = subst (λ (o : ControlFlow (Option Took) (Unit {0}) × List ℕ). Keeps t o.1) (sym e) (poll_front_turned t r fair k).keeps

    pub turn_fewer : queue_count u + 1 ≡ queue_count t
    turn_fewer = subst (λ (o : ControlFlow (Option Took) (Unit {0}) × List ℕ). o.0 ≡ Continue tt → queue_count o.1 + 1 ≡ queue_count t) (sym e) (poll_front_turned t r fair k).fewer refl

    pub turns_on : turns u r fair ≡ turns t r fair
    unfolding turns turns_within after_turn
    turns_on = go (queue_count t) (queue_count u) turn_fewer
      where
        go : (n m : ℕ) → m + 1 ≡ n → turns_within m u r fair ≡ turns_within n t r fair
        go zero m z = absurd (omega arith)
        go (suc n) m z =
            let q : m ≡ n = omega arith in
            rw q (ap (λ (o : ControlFlow (Option Took) (Unit {0}) × List ℕ). after_turn o (turns_within n o.1 r fair)) e)

-- the front lane gives an item, which ends the take
pub gave_ends : (t r : List ℕ) (fair : Bool) (k : Turning t) → (queue_count t ≡ 0 → ⊥) → (p : LanePoll) → polled_front t r fair ≡ Ok p
    → (Some (record { item = p.item; key = p.lane.key }), gave_front t p.rotate p.lane) ≡ turns t r fair
unfolding turn_by
gave_ends t r fair k some p e = turns_end t r fair k _ _ (front_is t r fair k some _ e)

-- turns keep what a turn keeps
turns_within_keep : (n : ℕ) (t r : List ℕ) (fair : Bool) → Turning t → Keeps t (turns_within n t r fair).1
unfolding turns_within after_turn
turns_within_keep zero t r fair k = keeps_self t k
turns_within_keep (suc n) t r fair k =
    let s = (poll_front_turned t r fair k).keeps in
    go (poll_front t r fair) s (turns_within_keep n (poll_front t r fair).1 r fair s.turning)
  where
    go : (o : ControlFlow (Option Took) (Unit {0}) × List ℕ) → Keeps t o.1 → Keeps o.1 (turns_within n o.1 r fair).1 → Keeps t (after_turn o (turns_within n o.1 r fair)).1
    go (Break took, u) a b = a
    go (Continue done, u) a b = keeps_then a b

pub turns_keep : (t r : List ℕ) (fair : Bool) → Turning t → Keeps t (turns t r fair).1
unfolding turns
turns_keep t r fair k = turns_within_keep (queue_count t) t r fair k
