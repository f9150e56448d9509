-- `receive_while::batch_while::drain_while` meets its contract.
-- Assumes nothing.
use Rattle.receive_while.proofs.WhileLaws.{Admitting}
use Prim.Native.Nat.{◌-◌}
use Rattle.receive_while.proofs.batch_while.drain_while.Given as goal

abbrev pub invariant-loop-received : goal.invariant-loop-received
invariant-loop-received l = Admitting l.initial.t l.r l.initial.out l.limit l.bound l.t l.out l.received

abbrev pub decreases-loop-received : goal.decreases-loop-received
decreases-loop-received l = l.limit - l.received
