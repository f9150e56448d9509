-- `order::slots::slots_hold` meets its contract.
-- Assumes nothing.
use Rattle.order.proofs.SlotsLaws.{SlotScan}
use Rattle.order.proofs.slots.slots_hold.Given as goal

abbrev pub invariant-loop-slot : goal.invariant-loop-slot
invariant-loop-slot l = SlotScan l.t l.queued.words l.free.words l.slot l.lanes l.living l.held
