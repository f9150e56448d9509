-- `store::refusal::receiver_verdict` meets its contract.
-- Assumes nothing.
use borrow.Author.Tests.{eq-eqb, ne_eqb}
use Rattle.store.specs.Refusal.{receiver_verdict}
use Rattle.store.proofs.refusal.receiver_verdict.Goals as goal

pub returns-then-t-ne1 : goal.returns-then-t-ne1
unfolding receiver_verdict
returns-then-t-ne1 c = simp (ne_eqb _ _ c.if-t-ne1.true)

pub returns : goal.returns
unfolding receiver_verdict
returns c = simp (eq-eqb _ _ c.if-t-ne1.false)
