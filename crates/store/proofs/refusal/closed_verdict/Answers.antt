-- `store::refusal::closed_verdict` meets its contract.
-- Assumes nothing.
use Rattle.std.proofs.Common.{arith}
use Rattle.std.proofs.lemmas.Grind.{common_steps}
use Rattle.std.proofs.lemmas.Bool.Decides.{nat_tests}
use Rattle.store.specs.Refusal.{closed_verdict}
use Rattle.store.proofs.refusal.closed_verdict.Goals as goal

pub returns-then-t-ne1 : goal.returns-then-t-ne1
unfolding closed_verdict
returns-then-t-ne1 c = grind (arith, common_steps, nat_tests)

pub returns : goal.returns
unfolding closed_verdict
returns c = grind (arith, common_steps, nat_tests)
