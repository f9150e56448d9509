-- `ready::ready::wanted_lane` meets its contract.
-- Assumes nothing.
use Rattle.std.proofs.Common.{arith}
use Rattle.std.proofs.lemmas.Grind.{common_steps}
use Rattle.std.proofs.lemmas.Bool.Decides.{nat_tests}
use Rattle.ready.specs.Ready.{wanted_lane}
use Rattle.ready.proofs.ready.wanted_lane.Goals as goal

pub returns-then-l-eq0 : goal.returns-then-l-eq0
unfolding wanted_lane
returns-then-l-eq0 c = grind (arith, common_steps, nat_tests)

pub returns-else-l-eq0 : goal.returns-else-l-eq0
unfolding wanted_lane
returns-else-l-eq0 c = grind (arith, common_steps, nat_tests)
