-- Retiring the empty paused lanes of a table with no lane queued.
-- Assumes nothing.
use mathlib.Core.Path.{◌≡◌, refl, sym, ap, ◌∙◌}
use mathlib.Core.Bool.{Bool, true, false, cond}
use mathlib.Core.List.{List, [], ◌∷◌}
use Prim.Native.Nat.{ℕ, ◌+◌, ◌-◌, ◌≤◌, ◌<◌}
use native.Mathlib.Omega.{arith}
use borrow.Author.Tests.{eqb-true}
use lib.Dec.{eqb}
use lib.ListN.{length}
use Rattle.model.specs.Lists.{count}
use Rattle.model.specs.declared.Answer.{Answer}
use Rattle.model.specs.declared.Answer.TheVariants.{Empty, Disconnected}
use Rattle.lane.specs.declared.lane.Lane.{Lane}
use Rattle.lane.specs.Order.{Refundable}
use Rattle.lane.specs.Lane.{reload_is_empty}
use Rattle.lane.specs.Table.{lane_at}
use Rattle.lane.proofs.OrderLaws.{cond_holds, order_narrow, refundable, reload_is_empty_keeps}
use Rattle.lane.proofs.TableLaws.{slot_of_lane}
use Rattle.queues.specs.Header.{Shaped, issued, slots, free_count, lane_count, living_count, capacity}
use Rattle.queues.specs.Queue.{queue_of}
use Rattle.queues.proofs.QueueLaws.{length_queue}
use Rattle.store.specs.Registry.{retire_lane}
use Rattle.all_lanes.specs.AllLanes.{for_slots}
use Rattle.turns.specs.Turn.{retire_if}
use Rattle.turns.specs.Drained.{Idle, retire_empty_paused, retire_empty_paused_lanes, empty_or_drained, is_drained, nothing_taken}
use Rattle.store.proofs.StepLaws.{step_from}
use Rattle.store.proofs.RetireFrames.{length_retire_lane}
use Rattle.all_lanes.proofs.SlotLoops.{sub_zero, slots_next, slots_end}
use Rattle.store.proofs.LaneFields.{Flagged, flagged_looked}
use Rattle.turns.proofs.TurnLaws.{slot_below, some_lane, free_room}
use Rattle.turns.proofs.FrontLaws.{turning_retire, head_retired}

none_named : (l : List ℕ) (y : ℕ) → length l ≡ 0 → count y l ≡ 0
unfolding count
none_named [] y e = refl
none_named (x ∷ l) y e = absurd (omega arith)

-- a table after a slot's turn
pub record Still (t u : List ℕ) : Type 0 where
  pub idle : Idle u
  pub same_issued : issued u ≡ issued t
  pub long : length u ≡ length t

module _ (t : List ℕ) (k : Idle t) (x : ℕ) (h : x < issued t) where
  looked : Lane
  looked = (reload_is_empty (lane_at t x)).lane

  pub looked_slot : (reload_is_empty (lane_at t x)).lane.key.slot ≡ x
  looked_slot = ap (λ (z : Flagged). z.0.slot) (flagged_looked (lane_at t x)) ∙ slot_of_lane t x

  pub paused_refunds : (lane_at t x).registered ≡ 1 → Refundable (lane_at t x)
  paused_refunds e = refundable (capacity t) k.turning.power.most (lane_at t x) (k.turning.lanes x h e)

  module _ (e : (lane_at t x).registered ≡ 1) where
    pub retire_room : Shaped t × ((reload_is_empty (lane_at t x)).lane.key.slot < slots t) × (free_count t < slots t) × (0 < lane_count t)
    retire_room =
        (k.turning.shaped, rw looked_slot (slot_below t k.turning x h), free_room t k.turning x h e, some_lane t k.turning x h e)

    still_retired : Still t (retire_lane t (reload_is_empty (lane_at t x)).lane)
    still_retired =
        record {
          idle = record {
            turning = turning_retire k.turning (step_from t k.turning.shaped k.turning.linked x) h e (reload_is_empty (lane_at t x)).lane looked_slot
                (order_narrow (capacity t) k.turning.power.most _ (reload_is_empty_keeps (capacity t) k.turning.power.most (lane_at t x) (k.turning.lanes x h e))) (λ y d. refl)
                (none_named (queue_of t) x (length_queue t ∙ k.none_queued)) refl refl;
            none_queued = head_retired t (reload_is_empty (lane_at t x)).lane 2 refl refl refl ∙ k.none_queued;
          };
          same_issued = head_retired t (reload_is_empty (lane_at t x)).lane 0 refl refl refl;
          long = length_retire_lane t (reload_is_empty (lane_at t x)).lane;
        }

  self : Still t t
  self = record { idle = k; same_issued = refl; long = refl }

  pub still_slot : Still t (retire_empty_paused t x)
  unfolding retire_empty_paused retire_if
  still_slot =
      cond_holds (Still t) (eqb (lane_at t x).registered 1) _ t
      (λ e. cond_holds (Still t) (eqb (lane_at t x).paused 1) _ t
      (λ f. cond_holds (Still t) (reload_is_empty (lane_at t x)).empty (retire_lane t (reload_is_empty (lane_at t x)).lane) t (λ g. still_retired (eqb-true _ 1 e)) (λ g. self)) (λ f. self))
      (λ e. self)

-- the loop over the slots
pub record Retiring (t₀ t : List ℕ) (slot : ℕ) : Type 0 where
  pub still : Still t₀ t
  pub rest : for_slots retire_empty_paused (issued t₀ - slot) slot t ≡ retire_empty_paused_lanes t₀

pub retiring_start : (t : List ℕ) → Idle t → Retiring t t 0
unfolding retire_empty_paused_lanes
retiring_start t k =
    record {
      still = record { idle = k; same_issued = refl; long = refl };
      rest = ap (λ (n : ℕ). for_slots retire_empty_paused n 0 t) (sub_zero (issued t));
    }

pub retiring_next : (t₀ t : List ℕ) (slot : ℕ) → Retiring t₀ t slot → slot < issued t₀ → (u : List ℕ) → u ≡ retire_empty_paused t slot → Retiring t₀ u (slot + 1)
retiring_next t₀ t slot k h u e =
    let s = still_slot t k.still.idle slot (rw k.still.same_issued h) in
    rw e
    (record {
      still = record { idle = s.idle; same_issued = s.same_issued ∙ k.still.same_issued; long = s.long ∙ k.still.long };
      rest = sym (slots_next retire_empty_paused (issued t₀) slot t h) ∙ k.rest;
    })

pub retiring_end : (t₀ t : List ℕ) (slot : ℕ) → Retiring t₀ t slot → issued t₀ ≤ slot → t ≡ retire_empty_paused_lanes t₀
retiring_end t₀ t slot k n = sym (slots_end retire_empty_paused (issued t₀) slot t n) ∙ k.rest

answered : Bool × List ℕ → Answer × List ℕ
answered o = (cond o.0 Disconnected Empty, o.1)

-- the answer of a receive that took nothing, by whether the channel is drained
pub nothing_is : (t u : List ℕ) (d : Bool) → (d, u) ≡ is_drained t → (cond d Disconnected Empty, u) ≡ nothing_taken t
unfolding nothing_taken empty_or_drained is_drained answered
nothing_is t u d e = ap answered e ∙ go (eqb (living_count t) 0)
  where
    go : (b : Bool) → answered (cond b (eqb (lane_count (retire_empty_paused_lanes t)) 0, retire_empty_paused_lanes t) (false, t))
        ≡ cond b (cond (eqb (lane_count (retire_empty_paused_lanes t)) 0) Disconnected Empty, retire_empty_paused_lanes t) (Empty, t)
    go true = refl
    go false = refl
