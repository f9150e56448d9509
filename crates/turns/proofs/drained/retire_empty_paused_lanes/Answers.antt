-- `turns::drained::retire_empty_paused_lanes` meets its contract.
-- Assumes nothing.
use Rattle.turns.proofs.DrainedLaws.{retiring_start, retiring_next, retiring_end}
use Rattle.turns.proofs.drained.retire_empty_paused_lanes.Goals as goal

pub loop-slot-init : goal.loop-slot-init
loop-slot-init c = retiring_start _ c.requires

pub retire_empty_paused-requires : goal.retire_empty_paused-requires
retire_empty_paused-requires c =
    let k = c.loop-slot.invariant.still in
    (k.idle, rw k.same_issued c.loop-slot-test.true)

pub loop-slot-preserved : goal.loop-slot-preserved
loop-slot-preserved c = retiring_next _ _ _ c.loop-slot.invariant c.loop-slot-test.true _ c.retire_empty_paused.ensures

pub returns : goal.returns
returns c = retiring_end _ _ _ c.loop-slot.invariant c.loop-slot-test.false
