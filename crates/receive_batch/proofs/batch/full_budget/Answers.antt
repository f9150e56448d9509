-- `receive_batch::batch::full_budget` meets its contract.
-- Assumes nothing.
use Rattle.receive_batch.specs.Batch.{full_budget}
use borrow.Author.Tests.{eq-eqb, ne_eqb}
use Rattle.receive_batch.proofs.batch.full_budget.Goals as goal

pub returns-then-budget-eq0 : goal.returns-then-budget-eq0
unfolding full_budget
returns-then-budget-eq0 c = simp (eq-eqb _ _ c.if-budget-eq0.true)

pub returns : goal.returns
unfolding full_budget
returns c = simp (ne_eqb _ _ c.if-budget-eq0.false)
