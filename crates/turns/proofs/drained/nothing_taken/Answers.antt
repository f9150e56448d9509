-- `turns::drained::nothing_taken` meets its contract.
-- Assumes nothing.
use Rattle.turns.proofs.DrainedLaws.{nothing_is}
use Rattle.turns.proofs.drained.nothing_taken.Goals as goal

pub returns-then-is_drained : goal.returns-then-is_drained
returns-then-is_drained c = rw c.if-is_drained.true at (nothing_is _ _ _ c.is_drained.ensures)

pub returns : goal.returns
returns c = rw c.if-is_drained.false at (nothing_is _ _ _ c.is_drained.ensures)
