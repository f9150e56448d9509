-- `turns::drained::retire_empty_paused_lanes` meets its contract.
-- Assumes nothing.
use Rattle.turns.proofs.DrainedLaws.{Retiring}
use Rattle.turns.proofs.drained.retire_empty_paused_lanes.Given as goal

abbrev pub invariant-loop-slot : goal.invariant-loop-slot
invariant-loop-slot l = Retiring l.initial.t l.t l.slot
