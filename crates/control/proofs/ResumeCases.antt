-- Resuming by its case: a paused lane, and one that is not.
-- Assumes nothing.
use mathlib.Core.Path.{◌≡◌}
use mathlib.Core.List.{List}
use Prim.Native.Nat.{ℕ}
use borrow.Author.Tests.{eq-eqb, ne_eqb}
use Rattle.lane.specs.declared.lane.Lane.{Lane}
use Rattle.lane.specs.Table.{put_lane}
use Rattle.queues.specs.Queue.{push_back}
use Rattle.store.specs.Signal.{mark_if_idle}
use Rattle.control.specs.Control.{with_turn, resume_lane}

module _ (t : List ℕ) (l : Lane) where
  -- a paused lane is stored, marked and queued
  pub resumed_paused : l.paused ≡ 1 → resume_lane t l ≡ push_back (mark_if_idle (put_lane t (with_turn 1 1 0 l)) l) l.key.slot
  unfolding resume_lane
  resumed_paused e = rw (eq-eqb l.paused 1 e)

  pub resumed_unpaused : (l.paused ≡ 1 → ⊥) → resume_lane t l ≡ t
  unfolding resume_lane
  resumed_unpaused n = rw (ne_eqb l.paused 1 n)
