-- `lane::lane::Lane::refill` meets its contract.
-- Assumes nothing.
use Rattle.lane.proofs.OrderLaws.{reload_found_empty}
use Rattle.lane.specs.Lane.{refill, ready_or_idle, reload}
use mathlib.Core.Path.{refl, ◌∙◌, ap}
use borrow.Author.Tests.{eq-eqb, ne_eqb}
use Rattle.lane.proofs.lane.Lane.refill.Goals as goal

pub settle_empty-requires : goal.settle_empty-requires
settle_empty-requires c = rw c.reload-lane.ensures (reload_found_empty _ (rw c.close_fast.ensures refl) (rw (← c.reload-lane.ensures) c.if-lane-eq0.true))

pub returns-then-lane-eq0 : goal.returns-then-lane-eq0
unfolding refill ready_or_idle
returns-then-lane-eq0 c = (simp (eq-eqb _ _ c.if-lane-eq0.true, c.settle_empty.ensures)) ∙ ap ready_or_idle (c.reload-lane.ensures ∙ ap reload c.close_fast.ensures)

pub returns : goal.returns
unfolding refill ready_or_idle
returns c = (simp (ne_eqb _ _ c.if-lane-eq0.false)) ∙ ap ready_or_idle (c.reload-lane.ensures ∙ ap reload c.close_fast.ensures)
