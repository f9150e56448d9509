-- `order_slot::slot::queued_holds` meets its contract.
-- Assumes nothing.
use native.Mathlib.Omega.{arith}
use Rattle.std.proofs.lemmas.Bool.Decides.{nat_tests}
use Rattle.order_slot.proofs.TellsLaws.{tells_by, tells_eq}
use Rattle.order_slot.proofs.slot.queued_holds.Goals as goal

pub returns-else-l-queued : goal.returns-else-l-queued
returns-else-l-queued c = tells_by _ (λ e. absurd (grind (arith, nat_tests))) (λ p. absurd (c.if-l-queued.false p.0))

pub returns-then-queued-eq0 : goal.returns-then-queued-eq0
returns-then-queued-eq0 c = tells_by _ (λ e. (c.if-l-queued.true, λ h. absurd (omega arith))) (λ p. grind (arith, nat_tests))

pub returns-else-queued-eq0 : goal.returns-else-queued-eq0
returns-else-queued-eq0 c = tells_eq _ _ (λ e. (c.if-l-queued.true, λ h. e)) (λ p. p.1 (omega (arith, c.if-queued-eq0.false)))
