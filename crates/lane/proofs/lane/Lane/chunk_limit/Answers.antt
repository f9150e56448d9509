-- `lane::lane::Lane::chunk_limit` meets its contract.
-- Assumes nothing.
use Rattle.lane.specs.Lane.{chunk_limit}
use Rattle.lane.proofs.lane.Lane.chunk_limit.Goals as goal

pub returns : goal.returns
unfolding chunk_limit
returns c = cc
