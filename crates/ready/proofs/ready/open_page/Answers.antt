-- `ready::ready::open_page` meets its contract.
-- Assumes nothing.
use borrow.Author.Tests.{eq-eqb, ne_eqb}
use native.Mathlib.Omega.{arith}
use lib.ListN.{length-set}
use Rattle.ready.specs.Ready.{open_page}
use Rattle.ready.proofs.ready.open_page.Goals as goal

pub open_group-requires : goal.open_group-requires
open_group-requires c = simp (c.store.ensures, length-set) (omega arith)

pub returns-then-slot-eq0 : goal.returns-then-slot-eq0
unfolding open_page
returns-then-slot-eq0 c = simp (eq-eqb _ _ c.if-slot-eq0.true, c.open_group.ensures, c.store.ensures, c.new.ensures)

pub returns-else-slot-eq0 : goal.returns-else-slot-eq0
unfolding open_page
returns-else-slot-eq0 c = simp (ne_eqb _ _ c.if-slot-eq0.false)
