-- `turns::turn::meet_budget` meets its contract.
-- Assumes nothing.
use Rattle.turns.specs.Turn.{meet_budget}
use borrow.Author.Tests.{eq-eqb, ne_eqb}
use Rattle.turns.proofs.turn.meet_budget.Goals as goal

pub returns-then-t-eq0 : goal.returns-then-t-eq0
unfolding meet_budget
returns-then-t-eq0 c = simp (eq-eqb _ _ c.if-t-eq0.true)

pub returns-then-t-eq0-2 : goal.returns-then-t-eq0-2
unfolding meet_budget
returns-then-t-eq0-2 c = simp (ne_eqb _ _ c.if-t-eq0.false, eq-eqb _ _ c.if-t-eq0-2.true)

pub returns-else-t-eq0-2 : goal.returns-else-t-eq0-2
unfolding meet_budget
returns-else-t-eq0-2 c = simp (ne_eqb _ _ c.if-t-eq0.false, ne_eqb _ _ c.if-t-eq0-2.false)
