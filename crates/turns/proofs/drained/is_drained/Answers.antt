-- `turns::drained::is_drained` meets its contract.
-- Assumes nothing.
use borrow.Author.Tests.{eq-eqb, ne_eqb}
use Rattle.turns.specs.Drained.{is_drained}
use Rattle.turns.proofs.drained.is_drained.Goals as goal

pub returns-then-t-ne0 : goal.returns-then-t-ne0
unfolding is_drained
returns-then-t-ne0 c = simp (ne_eqb _ _ c.if-t-ne0.true)

pub returns : goal.returns
unfolding is_drained
returns c = rw c.retire_empty_paused_lanes.ensures (simp (eq-eqb _ _ c.if-t-ne0.false))
