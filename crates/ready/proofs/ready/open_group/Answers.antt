-- `ready::ready::open_group` meets its contract.
-- Assumes nothing.
use borrow.Author.Tests.{eq-eqb, ne_eqb}
use Rattle.ready.specs.Ready.{open_group}
use Rattle.ready.proofs.ready.open_group.Goals as goal

pub returns-then-page-eq0 : goal.returns-then-page-eq0
unfolding open_group
returns-then-page-eq0 c = simp (eq-eqb _ _ c.if-page-eq0.true, c.store.ensures, c.new.ensures)

pub returns-else-page-eq0 : goal.returns-else-page-eq0
unfolding open_group
returns-else-page-eq0 c = simp (ne_eqb _ _ c.if-page-eq0.false)
