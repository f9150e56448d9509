-- `wraparound::rounds` meets its contract.
-- Assumes nothing.
use native.Mathlib.Omega.{arith}
use Rattle.yring.proofs.CursorLaws.{some}
use Rattle.lane.proofs.OrderLaws.{new_lane_in_order}
use borrow.Author.Rules.{rules}
use Rattle.wraparound.proofs.rounds.Goals as goal

pub nonzero_div-end : goal.nonzero_div-end
nonzero_div-end c = some _ c.requires.power

pub loop-init : goal.loop-init
loop-init c = rw c.new.ensures (new_lane_in_order _ c.requires.power _ _ (omega arith), search rules)
