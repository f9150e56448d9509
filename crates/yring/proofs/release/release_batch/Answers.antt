-- `yring::release::release_batch` meets its contract.
-- Assumes nothing.
use Rattle.std.proofs.Common.{arith}
use Rattle.model.specs.State.{release_batch}
use Rattle.yring.proofs.release.release_batch.Goals as goal

pub returns : goal.returns
unfolding release_batch
returns c = omega arith
