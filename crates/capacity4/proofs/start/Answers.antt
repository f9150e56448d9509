-- `capacity4::start` meets its contract.
-- Assumes nothing.
use native.Mathlib.Omega.{arith}
use Rattle.lane.proofs.OrderLaws.{new_lane_in_order}
use Rattle.capacity4.proofs.Four.{four}
use Rattle.capacity4.proofs.start.Goals as goal

pub returns : goal.returns
returns c = (c.new.ensures, rw c.new.ensures (new_lane_in_order 4 four _ 0 (omega arith)))
