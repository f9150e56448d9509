-- `turns::turn::rotate_if` meets its contract.
-- Assumes nothing.
use Rattle.turns.specs.Turn.{rotate_if}
use Rattle.turns.proofs.turn.rotate_if.Goals as goal

pub returns-then-rotate : goal.returns-then-rotate
unfolding rotate_if
returns-then-rotate c = simp c.if-rotate.true c.rotate_left.ensures

pub returns-else-rotate : goal.returns-else-rotate
unfolding rotate_if
returns-else-rotate c = simp c.if-rotate.false
