-- `wire_line::line::spell` meets its contract.
-- Assumes nothing.
use Rattle.wire_line.proofs.DecimalLaws.{Spelled}
use Rattle.wire_line.proofs.line.spell.Given as goal

abbrev pub invariant-loop-left : goal.invariant-loop-left
invariant-loop-left l = Spelled l.n l.left l.at l.digits

abbrev pub decreases-loop-left : goal.decreases-loop-left
decreases-loop-left l = l.left
