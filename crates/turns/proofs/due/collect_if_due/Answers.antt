-- `turns::due::collect_if_due` meets its contract.
-- Assumes nothing.
use Rattle.turns.specs.Due.{collect_if_due}
use borrow.Author.Tests.{eq-eqb, ne_eqb}
use Rattle.turns.proofs.due.collect_if_due.Goals as goal

pub returns-then-t-ne0 : goal.returns-then-t-ne0
unfolding collect_if_due
returns-then-t-ne0 c = simp (ne_eqb _ _ c.if-t-ne0.true)

pub returns-then-t-eq0 : goal.returns-then-t-eq0
unfolding collect_if_due
returns-then-t-eq0 c = simp (eq-eqb _ _ c.if-t-ne0.false, eq-eqb _ _ c.if-t-eq0.true)

pub returns : goal.returns
unfolding collect_if_due
returns c = simp (eq-eqb _ _ c.if-t-ne0.false, ne_eqb _ _ c.if-t-eq0.false, c.collect_if_ready.ensures)
