-- `sender::sender::passed_over` meets its contract.
-- Assumes nothing.
use Rattle.sender.proofs.PassedLaws.{Passing}
use Rattle.sender.proofs.sender.passed_over.Given as goal

abbrev pub invariant-loop-d : goal.invariant-loop-d
invariant-loop-d l = Passing l.t l.d
