-- `lane::lane::Lane::close_fast` meets its contract.
-- Assumes nothing.
use mathlib.Core.Path.{refl}
use Rattle.lane.proofs.lane.Lane.close_fast.Goals as goal

pub returns : goal.returns
returns c = refl
