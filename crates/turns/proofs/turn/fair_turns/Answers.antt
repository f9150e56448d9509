-- `turns::turn::fair_turns` meets its contract.
-- Assumes nothing.
use Rattle.turns.proofs.FrontLaws.{polled_as, gave_room, none_queued, turns_end, gave_ends}
use Rattle.turns.proofs.TurnLaws.{slot_below, ring_in, front_issued, front_ordered}
use native.Mathlib.Omega.{arith}
use mathlib.Core.Path.{sym, refl, ◌∙◌}
use Rattle.turns.proofs.turn.fair_turns.Goals as goal

pub returns-then-t-eq0 : goal.returns-then-t-eq0
returns-then-t-eq0 c = turns_end _ _ _ c.requires.0 _ _ (sym (none_queued _ _ _ c.if-t-eq0.true))

pub load-l-requires : goal.load-l-requires
load-l-requires c = rw c.front_slot-slot.ensures (omega (arith, slot_below _ c.requires.0 _ (front_issued _ c.requires.0 c.if-t-eq0.false), c.requires.0.shaped.room))

pub is_at_hand-requires : goal.is_at_hand-requires
is_at_hand-requires c = rw (c.load-l.ensures, c.front_slot-slot.ensures) (c.requires.0.power, front_ordered _ c.requires.0 c.if-t-eq0.false)

pub new-requires : goal.new-requires
new-requires c = rw c.front_slot-slot.ensures (omega (arith, slot_below _ c.requires.0 _ (front_issued _ c.requires.0 c.if-t-eq0.false), c.requires.0.shaped.slots_most), c.requires.0.power.most)

pub poll_at_hand-taken-requires : goal.poll_at_hand-taken-requires
poll_at_hand-taken-requires c =
    let hand = c.is_at_hand.ensures c.if-is_at_hand.true in
    rw c.new.ensures (rw c.front_slot-slot.ensures (ring_in _ c.requires.0 _ (front_issued _ c.requires.0 c.if-t-eq0.false) c.args.r.now c.requires.1), hand.0, hand.1)

pub gave_front-requires : goal.gave_front-requires
gave_front-requires c = gave_room _ _ _ c.requires.0 c.if-t-eq0.false _ (sym (polled_as _ _ _ _ _ _ _ c.front_slot-slot.ensures c.new.ensures c.load-l.ensures refl) ∙ c.poll_at_hand-taken.ensures)

pub returns-then-is_at_hand : goal.returns-then-is_at_hand
returns-then-is_at_hand c = rw c.gave_front.ensures (gave_ends _ _ _ c.requires.0 c.if-t-eq0.false _ (sym (polled_as _ _ _ _ _ _ _ c.front_slot-slot.ensures c.new.ensures c.load-l.ensures refl) ∙ c.poll_at_hand-taken.ensures))
