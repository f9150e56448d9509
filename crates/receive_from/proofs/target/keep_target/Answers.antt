-- `receive_from::target::keep_target` meets its contract.
-- Assumes nothing.
use Rattle.receive_from.specs.Target.{keep_target}
use borrow.Author.Tests.{eq-eqb, ne_eqb}
use Rattle.receive_from.proofs.target.keep_target.Goals as goal

pub returns-then-l-ne0 : goal.returns-then-l-ne0
unfolding keep_target
returns-then-l-ne0 c = simp (ne_eqb _ _ c.if-l-ne0.true) c.store.ensures

pub returns-then-l-ne0-2 : goal.returns-then-l-ne0-2
unfolding keep_target
returns-then-l-ne0-2 c = simp (eq-eqb _ _ c.if-l-ne0.false, ne_eqb _ _ c.if-l-ne0-2.true) c.store-then-l-ne0-2.ensures

pub returns : goal.returns
unfolding keep_target
returns c = simp (eq-eqb _ _ c.if-l-ne0.false, eq-eqb _ _ c.if-l-ne0-2.false) c.queue_target.ensures
