-- A lane retires: what the rules see of it, and the run of stores that it belongs to.
-- Assumes nothing.
use mathlib.Core.Path.{◌≡◌, refl, sym, ap, ap₂, ◌∙◌}
use mathlib.Core.Bool.{Bool, true, false, cond}
use mathlib.Core.List.{List, ◌∷◌}
use Prim.Native.Nat.{ℕ, ◌-◌, ◌<◌}
use lib.Dec.{eqb}
use Rattle.model.specs.declared.LaneKey.{LaneKey}
use Rattle.model.specs.Lists.{if}
use Rattle.model.specs.State.{Slot, State}
use Rattle.model.specs.Changes as changes
use Rattle.model.specs.Changes.{put, with_free, with_flags, with_signal}
use Rattle.model.specs.Turn as rules
use Rattle.lane.specs.declared.lane.Lane.{Lane}
use Rattle.lane.specs.Table.{NarrowLane, lane_at, put_lane}
use Rattle.lane.proofs.TableLaws.{slot_of_lane, loaded_narrow}
use Rattle.queues.specs.Header.{Shaped, issued, slots, free_count, lane_count, set_lane_count}
use Rattle.queues.specs.Registry.{free}
use Rattle.queues.proofs.QueueLaws.{shaped_put_lane}
use Rattle.store.specs.View.{flag, slot_at, view}
use Rattle.store.specs.Registry.{retired, free_unless_last, retire_lane}
use Rattle.store.proofs.ViewLaws.{slot_in, view_put_flags, view_lane_count, view_freed}
use Rattle.store.proofs.HeaderWords.{with_word}
use Rattle.store.proofs.StepLaws.{Step, step_put_lane, step_lane_count, step_freed}
use Rattle.store.proofs.RetireFrames.{shaped_lowered, room_lowered}

-- a lane that the rules see as they see the slot's own
module _ (t r : List ℕ) (s : Shaped t) (x : ℕ) (h : x < issued t) (l : Lane) (key : l.key ≡ (lane_at t x).key) (fits : NarrowLane l) (at : l.head ≡ (lane_at t x).head) (to : l.tail ≡ (lane_at t x).tail)
    (living : l.living ≡ (lane_at t x).living) (pending : l.pending ≡ (lane_at t x).pending) (unreleased : l.unreleased - l.window ≡ (lane_at t x).unreleased - (lane_at t x).window)
    (burst : l.burst - l.window ≡ (lane_at t x).burst - (lane_at t x).window) where
  abbrev slot : Slot
  slot = (view t r).slot_of x

  -- the lane stored as unregistered, and counted no more
  abbrev lowered : List ℕ
  lowered = set_lane_count (put_lane t (retired l)) (lane_count t - 1)

  slot_retired : with_flags false (flag l.living) false (with_signal (flag l.pending) slot.marked slot) ≡ changes.retired slot
  unfolding slot_at
  slot_retired =
      let sees = slot_in t r x h in
      ap₂ (λ (a b : Bool). with_flags false a false (with_signal b slot.marked slot)) (ap flag living ∙ sym (ap (λ (m : Slot). m.living) sees))
      (ap flag pending ∙ sym (ap (λ (m : Slot). m.pending) sees))

  view_lowered : view lowered r ≡ put x (changes.retired slot) (view t r)
  view_lowered =
      view_lane_count (put_lane t (retired l)) r (shaped_put_lane t s (retired l)) (lane_count t - 1)
      ∙ view_put_flags t r s x h (retired l) key fits at to unreleased burst
      ∙ ap (λ (m : Slot). put x m (view t r)) slot_retired

  generation_seen : slot.generation ≡ (lane_at t x).key.generation
  unfolding slot_at
  generation_seen = ap (λ (m : Slot). m.generation) (slot_in t r x h)

  pub view_retire_as : free_count t < slots t → view (retire_lane t l) r ≡ rules.retire_lane x (view t r)
  unfolding retire_lane free_unless_last rules.retire_lane
  view_retire_as room =
      ap (λ (k : LaneKey). view (cond (eqb k.generation 18446744073709551615) lowered (free lowered k.slot)) r) key
      ∙ ap (λ (y : ℕ). view (cond (eqb (lane_at t x).key.generation 18446744073709551615) lowered (free lowered y)) r) (slot_of_lane t x)
      ∙ go (eqb (lane_at t x).key.generation 18446744073709551615)
      ∙ ap (λ (n : ℕ). with_free (if (eqb n 18446744073709551615) (view t r).free (x ∷ (view t r).free)) (put x (changes.retired slot) (view t r))) (sym generation_seen)
    where
      go : (b : Bool) → view (cond b lowered (free lowered x)) r ≡ with_free (if b (view t r).free (x ∷ (view t r).free)) (put x (changes.retired slot) (view t r))
      go true = view_lowered
      go false =
          view_freed lowered r (shaped_lowered t (retired l) (lane_count t - 1) s) x (room_lowered t (retired l) (lane_count t - 1) room)
          ∙ ap (λ (v : State). with_free (x ∷ v.free) v) view_lowered

-- the slot's own lane
pub view_retire_lane : (t r : List ℕ) → Shaped t → (x : ℕ) → x < issued t → free_count t < slots t → view (retire_lane t (lane_at t x)) r ≡ rules.retire_lane x (view t r)
view_retire_lane t r s x h room = view_retire_as t r s x h (lane_at t x) refl (loaded_narrow t x) refl refl refl refl refl refl room

-- in a run of stores
pub step_retire_lane : {t u : List ℕ} {x : ℕ} {l : Lane} {w : List ℕ} {g : ℕ → ℕ} → Step t u x l w g → (o : Lane) → o.key.slot ≡ x → NarrowLane o → x < issued t
    → free_count u < slots u → Step t (retire_lane u o) x (retired o) w (with_word lane_count (lane_count u - 1) g)
unfolding retire_lane free_unless_last
step_retire_lane {t = t} {u = u} {x = x} {l = l} {w = w} {g = g} k o e fits h room = go (eqb o.key.generation 18446744073709551615)
  where
    low : List ℕ
    low = set_lane_count (put_lane u (retired o)) (lane_count u - 1)

    step : Step t low x (retired o) w (with_word lane_count (lane_count u - 1) g)
    step = step_lane_count (step_put_lane k (retired o) e fits h) (lane_count u - 1)

    go : (c : Bool) → Step t (cond c low (free low o.key.slot)) x (retired o) w (with_word lane_count (lane_count u - 1) g)
    go true = step
    go false = step_freed step o.key.slot (room_lowered u (retired o) (lane_count u - 1) room)
