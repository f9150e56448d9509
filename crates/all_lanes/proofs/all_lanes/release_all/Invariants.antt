-- `all_lanes::all_lanes::release_all` meets its contract.
-- Assumes nothing.
use Rattle.all_lanes.proofs.SlotLoops.{Releasing}
use Rattle.all_lanes.proofs.all_lanes.release_all.Given as goal

abbrev pub invariant-loop-slot : goal.invariant-loop-slot
invariant-loop-slot l = Releasing l.initial.t l.t l.slot
