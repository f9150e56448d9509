-- `wire_line::line::put_words` meets its contract.
-- Assumes nothing.
use Rattle.wire_line.proofs.PutLaws.{line_put}
use Rattle.wire_line.proofs.line.put_words.Goals as goal

pub returns-clause-puts : goal.returns-clause-puts
returns-clause-puts c = line_put _ c.put-start.ensures c.put_numbers-end.ensures.puts c.put.ensures
