-- `ready::ready::wanted` meets its contract.
-- Assumes nothing.
use Rattle.std.proofs.Common.{arith}
use Rattle.std.proofs.lemmas.Grind.{common_steps}
use Rattle.std.proofs.lemmas.Bool.Decides.{nat_tests}
use Rattle.ready.specs.Ready.{wanted}
use Rattle.ready.proofs.ready.wanted.Goals as goal

pub returns-then-slot-t : goal.returns-then-slot-t
unfolding wanted
returns-then-slot-t c = grind (arith, common_steps, nat_tests)

pub returns-else-slot-t : goal.returns-else-slot-t
unfolding wanted
returns-else-slot-t c = grind (arith, common_steps, nat_tests)
