-- `turns::turn::retire_if` meets its contract.
-- Assumes nothing.
use Rattle.turns.specs.Turn.{retire_if}
use Rattle.turns.proofs.turn.retire_if.Goals as goal

pub returns-then-dropped : goal.returns-then-dropped
unfolding retire_if
returns-then-dropped c = simp c.if-dropped.true c.retire_lane.ensures

pub returns-else-dropped : goal.returns-else-dropped
unfolding retire_if
returns-else-dropped c = simp c.if-dropped.false
