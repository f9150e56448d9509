-- `order::slots::slots_hold` meets its contract.
-- Assumes nothing.
use native.Mathlib.Omega.{arith}
use Rattle.std.proofs.lemmas.Bool.Decides.{nat_tests}
use Rattle.order_slot.specs.Tells.{no}
use Rattle.order_slot.proofs.TellsLaws.{told, untold, tells_by, denied}
use Rattle.order.proofs.SlotsLaws.{items_most, scan_start, here, scan_next, scan_counts, scan_all}
use Rattle.order.proofs.slots.slots_hold.Goals as goal

pub loop-slot-init : goal.loop-slot-init
loop-slot-init c = scan_start _ _ _

pub returns-then-not-slot_holds : goal.returns-then-not-slot_holds
returns-then-not-slot_holds c =
    no (λ p. untold (here _ _ _ c.load-l.ensures c.has-q.ensures c.has-f.ensures c.slot_holds.ensures) c.if-not-slot_holds.true (p.0 _ c.loop-slot-test.true))

-- the sum does not overflow: at most 8,192 lanes of 65,536 items
pub overflow_add-held : goal.overflow_add-held
overflow_add-held c =
    let s = told c.slot_holds.ensures c.if-not-slot_holds.false in
    omega (arith, c.held_in-held.ensures, items_most _ c.requires.1 s, c.loop-slot.invariant.held_most, c.loop-slot-test.true, c.requires.0)

pub loop-slot-preserved : goal.loop-slot-preserved
loop-slot-preserved c =
    let s = told (here _ _ _ c.load-l.ensures c.has-q.ensures c.has-f.ensures c.slot_holds.ensures) c.if-not-slot_holds.false in
    scan_next _ _ _ c.load-l.ensures c.has-q.ensures c.has-f.ensures c.loop-slot.invariant c.requires.1 c.loop-slot-test.true s c.held_in-held.ensures

pub returns-then-living-t : goal.returns-then-living-t
returns-then-living-t c =
    tells_by _ (λ e. scan_all _ _ _ c.loop-slot.invariant c.loop-slot-test.false (grind arith) (grind arith) (grind (arith, nat_tests)))
    (λ p. let q = scan_counts _ _ _ c.loop-slot.invariant c.loop-slot-test.false p in grind (arith, nat_tests, q))

pub returns-else-living-t : goal.returns-else-living-t
returns-else-living-t c = denied (cc) (λ p. let q = scan_counts _ _ _ c.loop-slot.invariant c.loop-slot-test.false p in grind (arith, q))
