-- `all_lanes::all_lanes::release_all` meets its contract.
-- Assumes nothing.
use Rattle.all_lanes.proofs.SlotLoops.{releasing_start, releasing_next, releasing_end}
use native.Mathlib.Omega.{arith}
use Rattle.all_lanes.proofs.all_lanes.release_all.Goals as goal

pub loop-slot-init : goal.loop-slot-init
loop-slot-init c = releasing_start _ c.requires.0 c.requires.1

pub release_slot-requires : goal.release_slot-requires
release_slot-requires c =
    let k = c.loop-slot.invariant in
    (k.shaped, omega (arith, k.shaped.issued_most, k.same_issued, c.loop-slot-test.true), k.refunds _ (omega arith) c.loop-slot-test.true)

pub loop-slot-preserved : goal.loop-slot-preserved
loop-slot-preserved c = releasing_next _ _ _ c.loop-slot.invariant c.loop-slot-test.true _ c.release_slot.ensures

pub returns : goal.returns
returns c = releasing_end _ _ _ c.loop-slot.invariant c.loop-slot-test.false
