-- `sender::sender::slot_verdict` meets its contract.
-- Assumes nothing.
use native.Mathlib.Omega.{arith}
use Rattle.std.proofs.lemmas.Bool.Decides.{nat_tests}
use Rattle.sender.specs.Sender.{slot_verdict}
use Rattle.sender.proofs.sender.slot_verdict.Goals as goal

pub returns-then-d-t : goal.returns-then-d-t
unfolding slot_verdict
returns-then-d-t c = grind (arith, nat_tests)

pub returns-then-t-eq0 : goal.returns-then-t-eq0
unfolding slot_verdict
returns-then-t-eq0 c = grind (arith, nat_tests)

pub returns : goal.returns
unfolding slot_verdict
returns c = grind (arith, nat_tests)
