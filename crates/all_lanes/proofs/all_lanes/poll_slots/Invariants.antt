-- `all_lanes::all_lanes::poll_slots` meets its contract.
-- Assumes nothing.
use Rattle.all_lanes.proofs.SlotLoops.{Polling}
use Rattle.all_lanes.proofs.all_lanes.poll_slots.Given as goal

abbrev pub invariant-loop-slot : goal.invariant-loop-slot
invariant-loop-slot l = Polling l.initial.t l.t l.slot
