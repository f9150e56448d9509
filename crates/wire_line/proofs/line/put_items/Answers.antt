-- `wire_line::line::put_items` meets its contract.
-- Assumes nothing.
use Rattle.std.proofs.lemmas.List.{take_min}
use Rattle.wire_line.proofs.PutLaws.{items_put}
use Rattle.wire_line.proofs.line.put_items.Goals as goal

pub returns-clause-puts : goal.returns-clause-puts
returns-clause-puts c = items_put _ c.put-start.ensures c.put_number-middle.ensures.puts c.put_numbers-end.ensures.puts (rw c.min-n.ensures (take_min _ _)) c.put.ensures
