-- `receive_batch::batch::look_front` meets its contract.
-- Assumes nothing.
use Rattle.receive_batch.proofs.LookLaws.{front_refunds, look_room, look_shaped, look_is, look_as}
use Rattle.turns.proofs.TurnLaws.{slot_below, front_issued}
use Rattle.receive_batch.specs.Batch.{look_by, look_front}
use borrow.Author.Tests.{eq-eqb}
use native.Mathlib.Omega.{arith}
use mathlib.Core.Path.{◌∙◌}
use Rattle.receive_batch.proofs.batch.look_front.Goals as goal

pub returns-then-t-eq0 : goal.returns-then-t-eq0
unfolding look_front
returns-then-t-eq0 c = simp (eq-eqb _ _ c.if-t-eq0.true)

pub load-requires : goal.load-requires
load-requires c = rw c.front_slot-slot.ensures (omega (arith, slot_below _ c.requires _ (front_issued _ c.requires c.if-t-eq0.false), c.requires.shaped.room))

pub refill-requires : goal.refill-requires
refill-requires c = rw (c.load.ensures, c.front_slot-slot.ensures) (front_refunds _ c.requires c.if-t-eq0.false)

pub settle_empty_front-requires : goal.settle_empty_front-requires
settle_empty_front-requires c = look_room _ c.requires c.if-t-eq0.false _ (look_as _ _ _ _ c.front_slot-slot.ensures c.load.ensures c.refill.ensures ∙ c.in-Err.is)

pub meet_budget-requires : goal.meet_budget-requires
meet_budget-requires c = rw c.settle_empty_front.ensures (look_shaped _ c.requires c.if-t-eq0.false _ (look_as _ _ _ _ c.front_slot-slot.ensures c.load.ensures c.refill.ensures ∙ c.in-Err.is))

pub returns-in-Err : goal.returns-in-Err
unfolding look_by
returns-in-Err c = rw (c.meet_budget.ensures, c.settle_empty_front.ensures) (look_is _ c.requires c.if-t-eq0.false _ (look_as _ _ _ _ c.front_slot-slot.ensures c.load.ensures c.refill.ensures ∙ c.in-Err.is))

pub returns-in-Ok : goal.returns-in-Ok
unfolding look_by
returns-in-Ok c = look_is _ c.requires c.if-t-eq0.false _ (look_as _ _ _ _ c.front_slot-slot.ensures c.load.ensures c.refill.ensures ∙ c.in-Ok.is)
