-- `lane::lane::Lane::pop_window` meets its contract.
-- Assumes nothing.
use borrow.Author.Rules.{rules}
use Rattle.lane.proofs.lane.Lane.pop_window.Goals as goal

pub overflow_sub-lane : goal.overflow_sub-lane
overflow_sub-lane c = rw c.pop-taken.ensures (search rules)

pub returns : goal.returns
returns c = rw c.pop-taken.ensures
