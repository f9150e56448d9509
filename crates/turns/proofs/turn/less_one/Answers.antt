-- `turns::turn::less_one` meets its contract.
-- Assumes nothing.
use Rattle.turns.specs.Turn.{less_one}
use borrow.Author.Tests.{eq-eqb, ne_eqb}
use Rattle.turns.proofs.turn.less_one.Goals as goal

pub returns-then-budget-eq0 : goal.returns-then-budget-eq0
unfolding less_one
returns-then-budget-eq0 c = simp (eq-eqb _ _ c.if-budget-eq0.true)

pub returns : goal.returns
unfolding less_one
returns c = simp (ne_eqb _ _ c.if-budget-eq0.false)
