-- `wire_line::line::last_digit` meets its contract. The check finds the answer; it stands so that an edit shows what is false.
-- Assumes nothing.
use mathlib.Core.Path.{refl}
use Rattle.wire_line.proofs.line.last_digit.Goals as goal

pub returns : goal.returns
returns c = refl
