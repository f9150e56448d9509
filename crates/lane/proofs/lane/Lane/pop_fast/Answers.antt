-- `lane::lane::Lane::pop_fast` meets its contract.
-- Assumes nothing.
use Rattle.lane.specs.Lane.{pop_fast}
use borrow.Author.Tests.{eq-eqb, ne_eqb}
use native.Mathlib.Omega.{arith}
use Rattle.lane.proofs.lane.Lane.pop_fast.Goals as goal

pub returns-then-self-eq0 : goal.returns-then-self-eq0
unfolding pop_fast
returns-then-self-eq0 c = simp (eq-eqb _ _ c.if-self-eq0.true)

pub pop_window-requires : goal.pop_window-requires
pop_window-requires c = (c.requires, omega (arith, c.if-self-eq0.false))

pub returns : goal.returns
unfolding pop_fast
returns c = simp (ne_eqb _ _ c.if-self-eq0.false, c.pop_window.ensures)
