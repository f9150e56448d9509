-- `lane::lane::Lane::release_pending` meets its contract.
-- Assumes nothing.
use Rattle.lane.specs.Lane.{release_pending, release_any}
use mathlib.Core.Path.{◌∙◌, ap}
use borrow.Author.Tests.{eq-eqb, ne_eqb}
use Rattle.lane.proofs.lane.Lane.release_pending.Goals as goal

pub returns-then-lane-eq0 : goal.returns-then-lane-eq0
unfolding release_pending release_any
returns-then-lane-eq0 c = (simp (eq-eqb _ _ c.if-lane-eq0.true)) ∙ ap release_any c.close_fast-lane.ensures

pub returns : goal.returns
unfolding release_pending release_any
returns c = (simp (ne_eqb _ _ c.if-lane-eq0.false, c.release.ensures)) ∙ ap release_any c.close_fast-lane.ensures
