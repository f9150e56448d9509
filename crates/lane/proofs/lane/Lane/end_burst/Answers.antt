-- `lane::lane::Lane::end_burst` meets its contract.
-- Assumes nothing.

use Rattle.lane.proofs.lane.Lane.end_burst.Goals as goal

pub returns-then-rotate : goal.returns-then-rotate
returns-then-rotate c = simp c.if-rotate.true
