-- `store::signal::mark_if_idle` meets its contract.
-- Assumes nothing.
use borrow.Author.Tests.{eq-eqb, ne_eqb}
use Rattle.store.specs.Signal.{mark_if_idle}
use Rattle.store.proofs.signal.mark_if_idle.Goals as goal

pub returns-then-l-eq0 : goal.returns-then-l-eq0
unfolding mark_if_idle
returns-then-l-eq0 c = simp (eq-eqb _ _ c.if-l-eq0.true, c.mark.ensures)

pub returns-else-l-eq0 : goal.returns-else-l-eq0
unfolding mark_if_idle
returns-else-l-eq0 c = simp (ne_eqb _ _ c.if-l-eq0.false)
