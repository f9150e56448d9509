-- A receive that took nothing: Empty or Disconnected, as words.
-- Assumes nothing.
use Rattle.std.specs.Prelude.{◌≡◌, Bool, false, cond, List, ℕ, ◌<◌, eqb, Option, Some, None}
use Rattle.model.specs.declared.Answer.{Answer}
use Rattle.model.specs.declared.Answer.TheVariants.{Empty, Disconnected}
use Rattle.lane.specs.Lane.{reload_is_empty}
use Rattle.lane.specs.Table.{lane_at}
use Rattle.queues.specs.Header.{issued, queue_count, lane_count, living_count}
use Rattle.turns.specs.declared.turn.Took.{Took}
use Rattle.all_lanes.specs.AllLanes.{for_slots}
use Rattle.turns.specs.Turn.{Turning, retire_if}

-- what is asked of the table where nothing was taken: no lane is queued
pub record Idle (t : List ℕ) : Type 0 where
  pub turning : Turning t
  pub none_queued : queue_count t ≡ 0

-- a take that handed nothing out leaves such a table
abbrev pub Rests : Option Took × List ℕ → Type 0
Rests (Some took, t) = 0 < 1
Rests (None, t) = Idle t

unfoldable pub retire_empty_paused : List ℕ → ℕ → List ℕ
retire_empty_paused t x =
    cond (eqb (lane_at t x).registered 1)
    (cond (eqb (lane_at t x).paused 1) (retire_if (reload_is_empty (lane_at t x)).empty t (reload_is_empty (lane_at t x)).lane) t)
    t

-- "after empty paused lanes are retired". Reading: by ascending slot.
unfoldable pub retire_empty_paused_lanes : List ℕ → List ℕ
retire_empty_paused_lanes t = for_slots retire_empty_paused (issued t) 0 t

-- "With no living sender but a paused lane holding items: Empty."
unfoldable pub empty_or_drained : List ℕ → Answer × List ℕ
empty_or_drained t = (cond (eqb (lane_count t) 0) Disconnected Empty, t)

-- "Disconnected: no living sender and no registered lane, after empty paused lanes are retired."
unfoldable pub nothing_taken : List ℕ → Answer × List ℕ
nothing_taken t = cond (eqb (living_count t) 0) (empty_or_drained (retire_empty_paused_lanes t)) (Empty, t)

-- whether the answer is Disconnected, and the table that goes with it
unfoldable pub is_drained : List ℕ → Bool × List ℕ
is_drained t =
    cond (eqb (living_count t) 0) (eqb (lane_count (retire_empty_paused_lanes t)) 0, retire_empty_paused_lanes t) (false, t)
