-- `order_slot::record::lane_holds` meets its contract.
-- Assumes nothing.
use Rattle.order_slot.proofs.TellsLaws.{told, untold, denied}
use Rattle.order_slot.proofs.LaneLaws.{lane_tells}
use Rattle.order_slot.proofs.record.lane_holds.Goals as goal

pub returns-then-cursors_hold : goal.returns-then-cursors_hold
returns-then-cursors_hold c =
    lane_tells _ _ (told c.cursors_hold.ensures c.if-cursors_hold.true) c.requires c.distance-taken.ensures c.distance-ahead.ensures c.counts_hold.ensures

pub returns-else-cursors_hold : goal.returns-else-cursors_hold
returns-else-cursors_hold c = denied (cc) (λ p. untold c.cursors_hold.ensures c.if-cursors_hold.false p.cursors)
