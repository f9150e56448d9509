-- A turn at the front changes no lane's key: the Rust's entries, which are keys, still name the lanes that they were made for when the next turn starts.
-- Assumes nothing.
use Rattle.std.specs.Prelude.{Option, None, Result, Ok, Err}
use mathlib.Core.Path.{◌≡◌, refl, sym, ap, ◌∙◌}
use mathlib.Core.Bool.{Bool}
use mathlib.Core.List.{List}
use Prim.Native.Nat.{ℕ, ◌-◌}
use native.Mathlib.Omega.{arith}
use borrow.Author.Tests.{eqb-false}
use lib.Dec.{eqb}
use lib.ListN.{length}
use Rattle.model.specs.declared.LaneKey.{LaneKey}
use Rattle.demands.proofs.Counting.{equal, other, same?}
use Rattle.lane.specs.declared.lane.Lane.{Lane}
use Rattle.lane.specs.declared.lane.EmptyLane.{EmptyLane}
use Rattle.lane.specs.declared.lane.LanePoll.{LanePoll}
use Rattle.yring.specs.Ring.{new_ring}
use Rattle.lane.specs.Lane.{refill}
use Rattle.lane.specs.Table.{HasRow, lane_at, put_lane}
use Rattle.lane.proofs.OrderLaws.{cond_holds}
use Rattle.lane.proofs.TableLaws.{frames, slot_of_lane, lane_own, other_lane_kept, has_row}
use Rattle.queues.specs.Header.{queue_count, budget, capacity, lane_count, set_budget, set_lane_count}
use Rattle.queues.specs.Queue.{front_slot, pop_front, rotate_left}
use Rattle.queues.proofs.QueueLaws.{queue_frames}
use Rattle.queues.proofs.RegistryLaws.{registry_frames}
use Rattle.store.specs.Registry.{retired, retire_lane}
use Rattle.store.proofs.RetireFrames.{freed_unless_last_is}
use Rattle.store.proofs.LaneFields.{Fixed, Flagged, Emptied, PollKept, poll_kept, RefillKept, refill_kept}
use Rattle.turns.specs.Turn.{Turning, front_lane, retire_if, settle_empty_front, meet_budget, rotate_if, gave_front, turn_by, poll_front}
use Rattle.receive_batch.specs.Batch.{look_by, look_front}
use Rattle.turns.proofs.TurnLaws.{slot_below, front_issued}
use Rattle.turns.proofs.FrontLaws.{polled_front}
use Rattle.turns.specs.declared.turn.Took.{Took}
use Rattle.std.specs.declared.ops.ControlFlow.{ControlFlow}
use Rattle.std.specs.declared.ops.ControlFlow.TheVariants.{Break}

-- every slot's lane has its key still
pub record SameKeys (t u : List ℕ) : Type 0 where
  pub keys : (y : ℕ) → (lane_at u y).key ≡ (lane_at t y).key
  pub long : length u ≡ length t

keys_self : (t : List ℕ) → SameKeys t t
keys_self t = record { keys = λ y. refl; long = refl }

keys_then : {t u v : List ℕ} → SameKeys t u → SameKeys u v → SameKeys t v
keys_then a b = record { keys = λ y. b.keys y ∙ a.keys y; long = b.long ∙ a.long }

-- a lane stored with the key of its slot's lane
keys_put : (t : List ℕ) (l : Lane) (x : ℕ) → HasRow x (length t) → l.key ≡ (lane_at t x).key → SameKeys t (put_lane t l)
keys_put t l x h e = record { keys = go; long = simp frames }
  where
    at : l.key.slot ≡ x
    at = ap (λ (k : LaneKey). k.slot) e ∙ slot_of_lane t x

    go : (y : ℕ) → (lane_at (put_lane t l) y).key ≡ (lane_at t y).key
    go y = elim (same? x y) [
      | equal p q i ↦ rw (← p) (ap (λ (m : Lane). m.key) (lane_own t l x at (has_row t x h)) ∙ e)
      | other d q i ↦ ap (λ (m : Lane). m.key) (other_lane_kept t l y (λ p. d (at_of p)))
    ]
      where
        at_of : y ≡ l.key.slot → x ≡ y
        at_of p = omega (arith, p, at)

keys_met : (t : List ℕ) → SameKeys t (meet_budget t)
unfolding meet_budget
keys_met t =
    cond_holds (SameKeys t) (eqb (queue_count t) 0) t _ (λ e. keys_self t)
    (λ e. cond_holds (SameKeys t) (eqb (budget t) 0) (set_budget t 64) t (λ f. record { keys = λ y. simp frames; long = simp frames }) (λ f. keys_self t))

keys_retired : (t : List ℕ) (l : Lane) (x : ℕ) → HasRow x (length t) → l.key ≡ (lane_at t x).key → SameKeys t (retire_lane t l)
unfolding retire_lane
keys_retired t l x h e =
    let p = keys_put t (retired l) x h e in
    let lowered = set_lane_count (put_lane t (retired l)) (lane_count t - 1) in
    keys_then p
    (freed_unless_last_is lowered l (SameKeys (put_lane t (retired l))) (record { keys = λ y. simp frames; long = simp frames })
    (record { keys = λ y. simp (registry_frames, frames); long = simp (registry_frames, frames) }))

module _ (t : List ℕ) (k : Turning t) (some : queue_count t ≡ 0 → ⊥) where
  front_row : HasRow (front_slot t) (length t)
  front_row = omega (arith, slot_below t k (front_slot t) (front_issued t k some), k.shaped.room)

  keys_left : (found : EmptyLane) → Emptied (front_lane t) found → SameKeys t (settle_empty_front t found)
  unfolding settle_empty_front retire_if
  keys_left found e =
      let same : found.lane.key ≡ (lane_at t (front_slot t)).key = ap (λ (z : Fixed). z.0) e.0 in
      let settled : List ℕ = pop_front (put_lane t found.lane) in
      let p : SameKeys t settled = keys_then (keys_put t found.lane (front_slot t) front_row same) (record { keys = λ y. simp queue_frames; long = simp queue_frames }) in
      cond_holds (SameKeys t) found.disconnected (retire_lane settled found.lane) settled
      (λ d. keys_then p (keys_retired settled found.lane (front_slot t) (rw p.long front_row) (same ∙ sym_key p))) (λ d. p)
    where
      sym_key : {u : List ℕ} → SameKeys t u → (lane_at t (front_slot t)).key ≡ (lane_at u (front_slot t)).key
      sym_key p = sym (p.keys (front_slot t))

  keys_gave : (rotate : Bool) (l : Lane) → l.key ≡ (lane_at t (front_slot t)).key → SameKeys t (gave_front t rotate l)
  unfolding gave_front rotate_if
  keys_gave rotate l e =
      let p = keys_put t l (front_slot t) front_row e in
      keys_then p
      (keys_then (cond_holds (SameKeys (put_lane t l)) rotate (rotate_left (put_lane t l)) (put_lane t l) (λ d. record { keys = λ y. simp queue_frames; long = simp queue_frames }) (λ d. keys_self _))
      (record { keys = λ y. simp frames; long = simp frames }))

  keys_turn : (p : Result LanePoll EmptyLane) → PollKept (front_lane t) p → SameKeys t (turn_by t p).1
  unfolding turn_by
  keys_turn (Ok p) e = keys_gave p.rotate p.lane (ap (λ (z : Flagged). z.0) e)
  keys_turn (Err found) e = keys_then (keys_left found e) (keys_met (settle_empty_front t found))

  keys_look : (p : Result Lane EmptyLane) → RefillKept (front_lane t) p → SameKeys t (look_by t p).1
  unfolding look_by
  keys_look (Ok l) e = keys_self t
  keys_look (Err found) e = keys_then (keys_left found e) (keys_met (settle_empty_front t found))

-- one turn of the poll loop
pub turn_keeps_keys : (t r : List ℕ) (fair : Bool) → Turning t → SameKeys t (poll_front t r fair).1
unfolding poll_front
turn_keeps_keys t r fair k =
    cond_holds (λ (o : ControlFlow (Option Took) (Unit {0}) × List ℕ). SameKeys t o.1) (eqb (queue_count t) 0) (Break None, t) (turn_by t (polled_front t r fair)) (λ e. keys_self t)
    (λ e. keys_turn t k (eqb-false (queue_count t) 0 e) (polled_front t r fair) (poll_kept (new_ring (front_slot t) (capacity t)) r fair (front_lane t)))

-- one look of the batch's search
pub look_keeps_keys : (t : List ℕ) → Turning t → SameKeys t (look_front t).1
unfolding look_front
look_keeps_keys t k =
    cond_holds (λ (o : ControlFlow (Option Lane) (Unit {0}) × List ℕ). SameKeys t o.1) (eqb (queue_count t) 0) (Break None, t) (look_by t (refill (front_lane t))) (λ e. keys_self t)
    (λ e. keys_look t k (eqb-false (queue_count t) 0 e) (refill (front_lane t)) (refill_kept (front_lane t)))
