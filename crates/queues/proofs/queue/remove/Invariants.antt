-- `queues::queue::remove` meets its contract.
-- Assumes nothing.
use Rattle.queues.proofs.Sift.{Sifted}
use Rattle.queues.proofs.queue.remove.Given as goal

abbrev pub invariant-loop-i : goal.invariant-loop-i
invariant-loop-i l = Sifted l.initial.t l.slot l.t l.kept l.i
