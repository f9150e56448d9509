-- What retiring a lane leaves as it was.
-- Assumes nothing.
use mathlib.Core.Path.{◌≡◌, refl, ◌∙◌}
use mathlib.Core.List.{List}
use Prim.Native.Nat.{ℕ, ◌-◌, ◌<◌}
use lib.Dec.{eqb}
use lib.ListN.{length}
use Rattle.lane.specs.declared.lane.Lane.{Lane}
use Rattle.lane.specs.Table.{put_lane}
use Rattle.lane.proofs.OrderLaws.{cond_holds}
use Rattle.lane.proofs.TableLaws.{frames}
use Rattle.queues.specs.Header.{Shaped, free_count, slots, lane_count, set_lane_count}
use Rattle.queues.specs.Registry.{free}
use Rattle.queues.proofs.QueueLaws.{shaped_put_lane, shaped_set_head}
use Rattle.queues.proofs.RegistryLaws.{length_freed}
use Rattle.store.specs.Registry.{retired, free_unless_last, retire_lane}

module _ (t : List ℕ) (l : Lane) where
  -- the count of lanes is neither the shape's nor the free list's
  pub shaped_lowered : (n : ℕ) → Shaped t → Shaped (set_lane_count (put_lane t l) n)
  shaped_lowered n s = shaped_set_head (put_lane t l) (shaped_put_lane t s l) 13 n refl refl refl refl refl refl

  pub room_lowered : (n : ℕ) → free_count t < slots t → free_count (set_lane_count (put_lane t l) n) < slots (set_lane_count (put_lane t l) n)
  room_lowered n h = simp frames h

  pub freed_unless_last_is : (P : List ℕ → Type 0) → P t → P (free t l.key.slot) → P (free_unless_last t l)
  unfolding free_unless_last
  freed_unless_last_is P p q =
      cond_holds P (eqb l.key.generation 18446744073709551615) t (free t l.key.slot) (λ e. p) (λ e. q)

  pub length_freed_unless_last : length (free_unless_last t l) ≡ length t
  length_freed_unless_last = freed_unless_last_is (λ u. length u ≡ length t) refl (length_freed t l.key.slot)

pub length_retire_lane : (t : List ℕ) (l : Lane) → length (retire_lane t l) ≡ length t
unfolding retire_lane
length_retire_lane t l = length_freed_unless_last (set_lane_count (put_lane t (retired l)) (lane_count t - 1)) l ∙ simp frames
