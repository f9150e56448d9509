-- `receive::receiver::take_lone` meets its contract.
-- Assumes nothing.
use mathlib.Core.Path.{refl, ◌∙◌}
use native.Mathlib.Omega.{arith}
use borrow.Author.Tests.{ne_eqb}
use Rattle.lane.specs.Lane.{pop_fair}
use Rattle.receive.specs.Receive.{take_lone}
use Rattle.turns.proofs.TurnLaws.{slot_below, ring_in, front_issued, front_ordered}
use Rattle.receive.proofs.FastLaws.{fair_open, lone_none, lone_item, lone_item_room}
use Rattle.receive.proofs.receiver.take_lone.Goals as goal

pub returns-then-t-ne1 : goal.returns-then-t-ne1
unfolding take_lone
returns-then-t-ne1 c = simp (ne_eqb _ _ c.if-t-ne1.true)

pub new-ring-requires : goal.new-ring-requires
new-ring-requires c = rw c.front_slot-slot.ensures (omega (arith, slot_below _ c.requires.0 _ (front_issued _ c.requires.0 (λ z. omega (arith, c.if-t-ne1.false))), c.requires.0.shaped.slots_most), c.requires.0.power.most)

pub load-l-requires : goal.load-l-requires
load-l-requires c = rw c.front_slot-slot.ensures (omega (arith, slot_below _ c.requires.0 _ (front_issued _ c.requires.0 (λ z. omega (arith, c.if-t-ne1.false))), c.requires.0.shaped.room))

pub take_from_lone_window-requires : goal.take_from_lone_window-requires
take_from_lone_window-requires c =
    let ring = rw c.front_slot-slot.ensures at c.new-ring.ensures in
    let b = fair_open _ _ _ _ (rw c.front_slot-slot.ensures at c.load-l.ensures) c.if-l-ne0.true in
    let room = lone_item_room _ c.args.r.now c.if-t-ne1.false _ b c.if-l-ne0.true _ ring (pop_fair c.new-ring.result c.args.r.now c.load-l.result) refl c.requires.0 c.requires.2 in
    (rw ring (ring_in _ c.requires.0 _ (front_issued _ c.requires.0 (λ z. omega (arith, c.if-t-ne1.false))) c.args.r.now c.requires.1), omega (arith, c.if-l-ne0.true), room.0, room.1, room.2)

pub returns-then-l-ne0 : goal.returns-then-l-ne0
returns-then-l-ne0 c =
    let ring = rw c.front_slot-slot.ensures at c.new-ring.ensures in
    let b = fair_open _ _ _ _ (rw c.front_slot-slot.ensures at c.load-l.ensures) c.if-l-ne0.true in
    c.take_from_lone_window.ensures ∙ lone_item _ c.args.r.now c.if-t-ne1.false _ b c.if-l-ne0.true _ ring (pop_fair c.new-ring.result c.args.r.now c.load-l.result) refl

pub fair_window-opened-requires : goal.fair_window-opened-requires
fair_window-opened-requires c = rw (c.load-l.ensures, c.front_slot-slot.ensures) (c.requires.0.power, front_ordered _ c.requires.0 (λ z. omega (arith, c.if-t-ne1.false)))

pub returns-then-opened-eq0 : goal.returns-then-opened-eq0
returns-then-opened-eq0 c = lone_none _ c.args.r.now c.if-t-ne1.false _ (rw (c.load-l.ensures, c.front_slot-slot.ensures) at c.fair_window-opened.ensures) c.if-opened-eq0.true

pub take_from_lone_window-requires-2 : goal.take_from_lone_window-requires-2
take_from_lone_window-requires-2 c =
    let ring = rw c.front_slot-slot.ensures at c.new-ring.ensures in
    let b = rw (c.load-l.ensures, c.front_slot-slot.ensures) at c.fair_window-opened.ensures in
    let room = lone_item_room _ c.args.r.now c.if-t-ne1.false _ b c.if-opened-eq0.false _ ring (pop_fair c.new-ring.result c.args.r.now c.fair_window-opened.result) refl c.requires.0 c.requires.2 in
    (rw ring (ring_in _ c.requires.0 _ (front_issued _ c.requires.0 (λ z. omega (arith, c.if-t-ne1.false))) c.args.r.now c.requires.1), omega (arith, c.if-opened-eq0.false), room.0, room.1, room.2)

pub returns : goal.returns
returns c =
    let ring = rw c.front_slot-slot.ensures at c.new-ring.ensures in
    let b = rw (c.load-l.ensures, c.front_slot-slot.ensures) at c.fair_window-opened.ensures in
    c.take_from_lone_window-2.ensures ∙ lone_item _ c.args.r.now c.if-t-ne1.false _ b c.if-opened-eq0.false _ ring (pop_fair c.new-ring.result c.args.r.now c.fair_window-opened.result) refl
