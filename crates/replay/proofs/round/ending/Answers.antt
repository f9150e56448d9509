-- `replay::round::ending` meets its contract.
-- Assumes nothing.
use native.Mathlib.Omega.{arith}
use Rattle.model.specs.Answers.{line}
use Rattle.wire_line.proofs.PutLaws.{puts_as}
use Rattle.replay.proofs.PlaceLaws.{puts_no_line, cut_line_lem}
use Rattle.replay.proofs.round.ending.Goals as goal

pub returns-then-left-eq0 : goal.returns-then-left-eq0
returns-then-left-eq0 c = (puts_no_line _ c.if-left-eq0.true, omega arith)

pub returns : goal.returns
unfolding line
returns c = (puts_as (cut_line_lem _ c.if-left-eq0.false) c.put_line.ensures.puts, omega (arith, c.put_line.ensures.upper_bound))
