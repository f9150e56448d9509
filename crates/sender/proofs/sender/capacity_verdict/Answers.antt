-- `sender::sender::capacity_verdict` meets its contract.
-- Assumes nothing.
use borrow.Author.Tests.{le-leb, lt-leb}
use Rattle.sender.specs.Sender.{capacity_verdict}
use Rattle.sender.proofs.sender.capacity_verdict.Goals as goal

pub returns-then-lanes-most : goal.returns-then-lanes-most
unfolding capacity_verdict
returns-then-lanes-most c = simp (le-leb _ _ c.if-lanes-most.true)

pub returns : goal.returns
unfolding capacity_verdict
returns c = simp (lt-leb _ _ c.if-lanes-most.false)
