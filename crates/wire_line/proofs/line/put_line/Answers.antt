-- `wire_line::line::put_line` meets its contract. The check finds all its answers; these stand so that an edit shows what is false.
-- Assumes nothing.
use mathlib.Core.Path.{refl}
use Rattle.wire_line.proofs.PutLaws.{item_line, stopped_line, line_of}
use Rattle.wire_line.proofs.line.put_line.Goals as goal

pub returns-in-Item-clause-puts : goal.returns-in-Item-clause-puts
returns-in-Item-clause-puts c = line_of _ c.in-Item.is (item_line _ c.in-Item.lane _ c.put_words-in-Item.ensures.puts refl refl)

pub returns-in-Stopped-clause-puts : goal.returns-in-Stopped-clause-puts
returns-in-Stopped-clause-puts c = line_of _ c.in-Stopped.is (stopped_line _ _ c.put_items-in-Stopped.ensures.puts refl)
