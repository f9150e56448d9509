-- `receive_batch::batch::drain_into` meets its contract.
-- Assumes nothing.
use Rattle.receive_batch.proofs.DrainLaws.{Draining}
use Prim.Native.Nat.{◌-◌}
use Rattle.receive_batch.proofs.batch.drain_into.Given as goal

abbrev pub invariant-loop-received : goal.invariant-loop-received
invariant-loop-received l = Draining l.initial.t l.r l.initial.out l.limit l.t l.out l.received

abbrev pub decreases-loop-received : goal.decreases-loop-received
decreases-loop-received l = l.limit - l.received
