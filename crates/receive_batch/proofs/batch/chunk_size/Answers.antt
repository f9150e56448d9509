-- `receive_batch::batch::chunk_size` meets its contract.
-- Assumes nothing.
use Rattle.receive_batch.specs.Batch.{chunk_size}
use Rattle.receive_batch.proofs.batch.chunk_size.Goals as goal

pub returns : goal.returns
unfolding chunk_size
returns c = cc
