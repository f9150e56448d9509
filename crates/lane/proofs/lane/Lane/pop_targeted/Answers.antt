-- `lane::lane::Lane::pop_targeted` meets its contract.
-- Assumes nothing.
use Rattle.lane.specs.Lane.{pop_targeted, targeted}
use borrow.Author.Rules.{rules}
use Rattle.lane.proofs.lane.Lane.pop_targeted.Goals as goal

pub charge-requires : goal.charge-requires
charge-requires c = rw c.pop-taken.ensures (c.requires.1.some, search rules)

pub release_at_batch-done-requires : goal.release_at_batch-done-requires
release_at_batch-done-requires c = (c.requires.0.power, rw (c.charge.ensures, c.pop-taken.ensures) c.requires.1.closed)

pub returns : goal.returns
unfolding pop_targeted targeted
returns c = simp (c.release_at_batch-done.ensures, c.charge.ensures, c.pop-taken.ensures)
