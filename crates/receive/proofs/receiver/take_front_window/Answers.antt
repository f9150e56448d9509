-- `receive::receiver::take_front_window` meets its contract.
-- Assumes nothing.
use Rattle.receive.specs.Receive.{take_front_window}
use Rattle.turns.proofs.TurnLaws.{slot_below, ring_in, front_issued, front_ordered}
use Rattle.receive.proofs.ReceiveLaws.{window_room, take_window_is}
use borrow.Author.Tests.{eq-eqb}
use native.Mathlib.Omega.{arith}
use mathlib.Core.Path.{refl, ◌∙◌}
use Rattle.receive.proofs.receiver.take_front_window.Goals as goal

pub returns-then-t-eq0 : goal.returns-then-t-eq0
unfolding take_front_window
returns-then-t-eq0 c = simp (eq-eqb _ _ c.if-t-eq0.true)

pub new-ring-requires : goal.new-ring-requires
new-ring-requires c = rw c.front_slot-slot.ensures (omega (arith, slot_below _ c.requires.0 _ (front_issued _ c.requires.0 c.if-t-eq0.false), c.requires.0.shaped.slots_most), c.requires.0.power.most)

pub load-requires : goal.load-requires
load-requires c = rw c.front_slot-slot.ensures (omega (arith, slot_below _ c.requires.0 _ (front_issued _ c.requires.0 c.if-t-eq0.false), c.requires.0.shaped.room))

pub grant_fast-l-requires : goal.grant_fast-l-requires
grant_fast-l-requires c = rw (c.load.ensures, c.front_slot-slot.ensures) (c.requires.0.power, front_ordered _ c.requires.0 c.if-t-eq0.false)

pub pop_fast-popped-requires : goal.pop_fast-popped-requires
pop_fast-popped-requires c = rw (c.new-ring.ensures, c.front_slot-slot.ensures) (ring_in _ c.requires.0 _ (front_issued _ c.requires.0 c.if-t-eq0.false) c.args.r.now c.requires.1)

pub take_if_popped-requires : goal.take_if_popped-requires
take_if_popped-requires c = window_room _ c.args.r.now c.requires.0 c.if-t-eq0.false _ refl _ (rw (c.new-ring.ensures, c.grant_fast-l.ensures, c.load.ensures, c.front_slot-slot.ensures) at c.pop_fast-popped.ensures)

pub returns : goal.returns
returns c = c.take_if_popped.ensures ∙ take_window_is _ c.args.r.now c.if-t-eq0.false _ (rw (c.new-ring.ensures, c.grant_fast-l.ensures, c.load.ensures, c.front_slot-slot.ensures) at c.pop_fast-popped.ensures)
