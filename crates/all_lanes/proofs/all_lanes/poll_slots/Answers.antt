-- `all_lanes::all_lanes::poll_slots` meets its contract.
-- Assumes nothing.
use Rattle.all_lanes.proofs.SlotLoops.{polling_start, polling_next, polling_end}
use Rattle.all_lanes.proofs.all_lanes.poll_slots.Goals as goal

pub loop-slot-init : goal.loop-slot-init
loop-slot-init c = polling_start _ c.requires.0 c.requires.1

pub poll_slot-requires : goal.poll_slot-requires
poll_slot-requires c =
    let k = c.loop-slot.invariant.kept in
    (k.shaped, k.names, rw k.same_issued c.loop-slot-test.true)

pub loop-slot-preserved : goal.loop-slot-preserved
loop-slot-preserved c = polling_next _ _ _ c.loop-slot.invariant c.loop-slot-test.true _ c.poll_slot.ensures

pub returns : goal.returns
returns c = polling_end _ _ _ c.loop-slot.invariant c.loop-slot-test.false
