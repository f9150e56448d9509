-- `lane::lane::Lane::release` meets its contract.
-- Assumes nothing.
use mathlib.Core.Path.{refl}
use Rattle.lane.proofs.lane.Lane.release.Goals as goal

pub returns : goal.returns
returns c = refl
