-- `order::marks::pages_hold` meets its contract.
-- Assumes nothing.
use native.Mathlib.Omega.{arith}
use borrow.Author.Count.{below_more}
use Rattle.order_slot.specs.Tells.{yes, no}
use Rattle.order_slot.proofs.TellsLaws.{told, untold}
use Rattle.order.proofs.marks.pages_hold.Goals as goal

pub returns-then-not-page_holds : goal.returns-then-not-page_holds
returns-then-not-page_holds c = no (λ p. untold c.page_holds.ensures c.if-not-page_holds.true (p _ (omega (arith, c.loop-page-test.true))))

pub loop-page-preserved : goal.loop-page-preserved
loop-page-preserved c = below_more _ _ c.loop-page.invariant (told c.page_holds.ensures c.if-not-page_holds.false)

pub returns : goal.returns
returns c = yes (λ k h. c.loop-page.invariant k (omega (arith, c.loop-page-test.false)))
