-- `order_slot::slot::unregistered_holds` meets its contract.
-- Assumes nothing.
use native.Mathlib.Omega.{arith}
use Rattle.std.proofs.lemmas.Bool.Decides.{nat_tests}
use Rattle.order_slot.proofs.TellsLaws.{tells_by}
use Rattle.order_slot.proofs.slot.unregistered_holds.Goals as goal

pub returns-else-named-eq0 : goal.returns-else-named-eq0
returns-else-named-eq0 c = tells_by _ (λ e. absurd (grind (arith, nat_tests))) (λ p. absurd (c.if-named-eq0.false p.unqueued))

pub returns-then-free-eq0 : goal.returns-then-free-eq0
returns-then-free-eq0 c = tells_by _ (λ e. record { unqueued = c.if-named-eq0.true; generation_below = λ h. absurd (omega arith) }) (λ p. grind (arith, nat_tests))

pub returns-else-free-eq0 : goal.returns-else-free-eq0
returns-else-free-eq0 c =
    tells_by _ (λ e. record { unqueued = c.if-named-eq0.true; generation_below = λ h. grind (arith, nat_tests) })
    (λ p. let g = p.generation_below (omega (arith, c.if-free-eq0.false)) in grind (arith, nat_tests, g))
