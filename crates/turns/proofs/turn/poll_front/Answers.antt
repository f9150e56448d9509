-- `turns::turn::poll_front` meets its contract.
-- Assumes nothing.
use Rattle.turns.proofs.FrontLaws.{polled_as, left_room, gave_room, shaped_left, front_is}
use Rattle.turns.proofs.TurnLaws.{slot_below, ring_in, front_issued, front_ordered}
use Rattle.turns.specs.Turn.{poll_front, turn_by}
use borrow.Author.Tests.{eq-eqb}
use native.Mathlib.Omega.{arith}
use mathlib.Core.Path.{sym, ◌∙◌}
use Rattle.turns.proofs.turn.poll_front.Goals as goal

pub returns-then-t-eq0 : goal.returns-then-t-eq0
unfolding poll_front
returns-then-t-eq0 c = simp (eq-eqb _ _ c.if-t-eq0.true)

pub new-ring-requires : goal.new-ring-requires
new-ring-requires c = rw c.front_slot-slot.ensures (omega (arith, slot_below _ c.requires.0 _ (front_issued _ c.requires.0 c.if-t-eq0.false), c.requires.0.shaped.slots_most), c.requires.0.power.most)

pub load-requires : goal.load-requires
load-requires c = rw c.front_slot-slot.ensures (omega (arith, slot_below _ c.requires.0 _ (front_issued _ c.requires.0 c.if-t-eq0.false), c.requires.0.shaped.room))

pub poll-requires : goal.poll-requires
poll-requires c =
    rw (c.new-ring.ensures, c.load.ensures, c.front_slot-slot.ensures)
    (ring_in _ c.requires.0 _ (front_issued _ c.requires.0 c.if-t-eq0.false) c.args.r.now c.requires.1, front_ordered _ c.requires.0 c.if-t-eq0.false)

pub settle_empty_front-requires : goal.settle_empty_front-requires
settle_empty_front-requires c = left_room _ _ _ c.requires.0 c.if-t-eq0.false _ (sym (polled_as _ _ _ _ _ _ _ c.front_slot-slot.ensures c.new-ring.ensures c.load.ensures c.poll.ensures) ∙ c.in-Err.is)

pub meet_budget-requires : goal.meet_budget-requires
meet_budget-requires c = rw c.settle_empty_front.ensures (shaped_left _ _ _ c.requires.0 c.if-t-eq0.false _ (sym (polled_as _ _ _ _ _ _ _ c.front_slot-slot.ensures c.new-ring.ensures c.load.ensures c.poll.ensures) ∙ c.in-Err.is))

pub gave_front-requires : goal.gave_front-requires
gave_front-requires c = gave_room _ _ _ c.requires.0 c.if-t-eq0.false _ (sym (polled_as _ _ _ _ _ _ _ c.front_slot-slot.ensures c.new-ring.ensures c.load.ensures c.poll.ensures) ∙ c.in-Ok.is)

pub returns-in-Err : goal.returns-in-Err
unfolding turn_by
returns-in-Err c = rw (c.meet_budget.ensures, c.settle_empty_front.ensures) (front_is _ _ _ c.requires.0 c.if-t-eq0.false _ (sym (polled_as _ _ _ _ _ _ _ c.front_slot-slot.ensures c.new-ring.ensures c.load.ensures c.poll.ensures) ∙ c.in-Err.is))

pub returns-in-Ok : goal.returns-in-Ok
unfolding turn_by
returns-in-Ok c = rw c.gave_front.ensures (front_is _ _ _ c.requires.0 c.if-t-eq0.false _ (sym (polled_as _ _ _ _ _ _ _ c.front_slot-slot.ensures c.new-ring.ensures c.load.ensures c.poll.ensures) ∙ c.in-Ok.is))
