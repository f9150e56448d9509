-- `lane::lane::Lane::reload` meets its contract.
-- Assumes nothing.
use Rattle.lane.specs.Lane.{reload}
use borrow.Author.Tests.{eq-eqb, ne_eqb}
use Rattle.lane.proofs.lane.Lane.reload.Goals as goal

pub returns-then-self-eq0 : goal.returns-then-self-eq0
unfolding reload
returns-then-self-eq0 c = simp (eq-eqb _ _ c.if-self-eq0.true, c.prefetch.ensures)

pub returns : goal.returns
unfolding reload
returns c = simp (ne_eqb _ _ c.if-self-eq0.false)
