-- `wire_line::line::put_numbers` meets its contract.
-- Assumes nothing.
use Prim.Native.Nat.{◌+◌, ◌*◌, ◌≤◌}
use lib.ListN.{take}
use Rattle.wire_line.specs.Text.{Puts, spaced}
use Rattle.wire_line.proofs.line.put_numbers.Given as goal

abbrev pub invariant-loop-n : goal.invariant-loop-n
invariant-loop-n l = Puts l.initial.text l.at (spaced (take l.n-index l.numbers)) l.text l.end × (l.end ≤ l.at + 21 * l.n-index)
