-- `wire_line::line::put` meets its contract.
-- Assumes nothing.
use Rattle.wire_line.proofs.PutLaws.{put_copied}
use Rattle.wire_line.proofs.line.put.Goals as goal

pub returns : goal.returns
returns c = put_copied _ _ _ _ c.requires c.copy_from_slice.ensures.after
