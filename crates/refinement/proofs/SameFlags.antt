-- A lane with the key and the flags of the one in its slot.
-- Assumes nothing.
use mathlib.Core.Path.{◌≡◌, sym, ap, ap₂, ◌∙◌}
use mathlib.Core.List.{List}
use Prim.Native.Nat.{ℕ, ◌<◌}
use native.Mathlib.Omega.{arith}
use Rattle.model.specs.State.{Slot, key_of}
use Rattle.lane.specs.declared.lane.Lane.{Lane}
use Rattle.lane.specs.Table.{lane_at}
use Rattle.lane.proofs.TableLaws.{slot_of_lane}
use Rattle.queues.specs.Header.{issued}
use Rattle.store.specs.View.{slot_at, view}
use Rattle.store.specs.Order.{Flags}
use Rattle.store.proofs.ViewLaws.{slot_in}
use Rattle.store.proofs.LaneFields.{Flagged, flagged}

pub flags_by : (l m : Lane) → flagged m ≡ flagged l → Flags l → Flags m
flags_by l m e f =
    record {
      pending_flag = omega (arith, ap (λ (z : Flagged). z.5) e, f.pending_flag);
      queued_flag = omega (arith, ap (λ (z : Flagged). z.4) e, f.queued_flag);
      paused_flag = omega (arith, ap (λ (z : Flagged). z.2) e, f.paused_flag);
      registered_flag = omega (arith, ap (λ (z : Flagged). z.1) e, f.registered_flag);
      living_flag = omega (arith, ap (λ (z : Flagged). z.3) e, f.living_flag);
    }

module _ (t : List ℕ) (x : ℕ) (m : Lane) (e : flagged m ≡ flagged (lane_at t x)) where
  pub slot_by_lem : m.key.slot ≡ x
  slot_by_lem = ap (λ (z : Flagged). z.0.slot) e ∙ slot_of_lane t x

  -- the rules' key of the slot
  pub key_by : (r : List ℕ) → x < issued t → m.key ≡ key_of (view t r) x
  unfolding slot_at
  key_by r h =
      ap (λ (z : Flagged). z.0) e
      ∙ ap₂ (λ (a b : ℕ). record { slot = a; generation = b }) (slot_of_lane t x) (ap (λ (y : Slot). y.generation) (sym (slot_in t r x h)))
