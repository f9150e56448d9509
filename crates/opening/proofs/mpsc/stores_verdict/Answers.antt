-- `opening::mpsc::stores_verdict` meets its contract.
-- Assumes nothing.
use borrow.Author.Tests.{le-leb, lt-leb}
use Rattle.opening.specs.Opening.{stores_verdict}
use Rattle.opening.proofs.mpsc.stores_verdict.Goals as goal

pub returns-then-slots-capacity : goal.returns-then-slots-capacity
unfolding stores_verdict
returns-then-slots-capacity c = simp (lt-leb _ _ c.if-slots-capacity.true)

pub returns-then-slots-table : goal.returns-then-slots-table
unfolding stores_verdict
returns-then-slots-table c = simp (le-leb _ _ c.if-slots-capacity.false, lt-leb _ _ c.if-slots-table.true)

pub returns : goal.returns
unfolding stores_verdict
returns c = simp (le-leb _ _ c.if-slots-capacity.false, le-leb _ _ c.if-slots-table.false)
