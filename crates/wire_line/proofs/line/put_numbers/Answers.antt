-- `wire_line::line::put_numbers` meets its contract.
-- Assumes nothing.
use native.Mathlib.Omega.{arith}
use Rattle.wire_line.proofs.PutLaws.{numbers_start, numbers_more, numbers_end}
use Rattle.wire_line.proofs.line.put_numbers.Goals as goal

pub loop-n-init : goal.loop-n-init
loop-n-init c = (numbers_start _ _, omega arith)

pub loop-n-preserved : goal.loop-n-preserved
loop-n-preserved c = (numbers_more _ _ c.loop-n-test.true c.loop-n.invariant.0 c.put_number-end.ensures.puts, omega arith)

pub returns-clause-puts : goal.returns-clause-puts
returns-clause-puts c = numbers_end _ c.loop-n.n-index c.loop-n.invariant.0 (omega arith)
