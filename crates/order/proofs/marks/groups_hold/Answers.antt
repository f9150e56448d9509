-- `order::marks::groups_hold` meets its contract.
-- Assumes nothing.
use native.Mathlib.Omega.{arith}
use borrow.Author.Count.{below_more}
use Rattle.order_slot.specs.Tells.{yes, no}
use Rattle.order_slot.proofs.TellsLaws.{told, untold}
use Rattle.order.proofs.marks.groups_hold.Goals as goal

pub returns-then-not-group_holds : goal.returns-then-not-group_holds
returns-then-not-group_holds c = no (λ p. untold c.group_holds.ensures c.if-not-group_holds.true (p _ (omega (arith, c.loop-group-test.true))))

pub loop-group-preserved : goal.loop-group-preserved
loop-group-preserved c = below_more _ _ c.loop-group.invariant (told c.group_holds.ensures c.if-not-group_holds.false)

pub returns : goal.returns
returns c = yes (λ k h. c.loop-group.invariant k (omega (arith, c.loop-group-test.false)))
