-- `lane::lane::Lane::fair_window` meets its contract.
-- Assumes nothing.
use Rattle.lane.proofs.OrderLaws.{burst_keeps}
use Rattle.lane.specs.Lane.{fair_window}
use borrow.Author.Tests.{eq-eqb, ne_eqb}
use native.Mathlib.Omega.{arith}
use Rattle.lane.proofs.lane.Lane.fair_window.Goals as goal

pub grant_fast-requires : goal.grant_fast-requires
grant_fast-requires c = (c.requires.0, rw c.end_burst.ensures (burst_keeps _ c.requires.0.most _ c.requires.1 0 (omega arith) (omega arith)))

pub returns-then-self-eq0 : goal.returns-then-self-eq0
unfolding fair_window
returns-then-self-eq0 c = simp (eq-eqb _ _ c.if-self-eq0.true, c.grant_fast.ensures, c.end_burst.ensures)

pub returns : goal.returns
unfolding fair_window
returns c = simp (ne_eqb _ _ c.if-self-eq0.false)
