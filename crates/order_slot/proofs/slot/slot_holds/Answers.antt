-- `order_slot::slot::slot_holds` meets its contract.
-- Assumes nothing.
use Rattle.order_slot.proofs.TellsLaws.{told, untold}
use Rattle.order_slot.specs.Tells.{no}
use Rattle.order_slot.proofs.SlotLaws.{registered_tells, unregistered_tells}
use Rattle.order_slot.proofs.slot.slot_holds.Goals as goal

pub returns-then-not-flags_hold : goal.returns-then-not-flags_hold
returns-then-not-flags_hold c = no (λ p. untold c.flags_hold.ensures c.if-not-flags_hold.true p.flags)

pub returns-then-l-eq1 : goal.returns-then-l-eq1
returns-then-l-eq1 c = registered_tells _ _ _ _ _ (told c.flags_hold.ensures c.if-not-flags_hold.false) c.if-l-eq1.true c.registered_holds.ensures

pub returns-else-l-eq1 : goal.returns-else-l-eq1
returns-else-l-eq1 c = unregistered_tells _ _ _ _ _ (told c.flags_hold.ensures c.if-not-flags_hold.false) c.if-l-eq1.false c.unregistered_holds.ensures
