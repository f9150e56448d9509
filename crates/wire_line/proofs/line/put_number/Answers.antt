-- `wire_line::line::put_number` meets its contract.
-- Assumes nothing.
use Rattle.wire_line.proofs.PutLaws.{number_put}
use Rattle.wire_line.proofs.line.put_number.Goals as goal

pub returns-clause-puts : goal.returns-clause-puts
returns-clause-puts c = number_put _ _ c.spell-first.ensures.1 _ c.put-start.ensures c.put.ensures c.spell-first.ensures.2
